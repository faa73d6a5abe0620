use mathlib.Core.Path.{◌≡◌, ap, ◌∙◌}
use native.Mathlib.Omega.{arith}
use Rattle.netread.specs.Kind.{kind_of}
use Rattle.netread.proofs.Marks.{short, long, by_key, none}
use Rattle.netread.proofs.kind_at.Goals as goal

pub returns-then-rest-lt2 : goal.returns-then-rest-lt2
returns-then-rest-lt2 c = short _ c.if-rest-lt2.true

pub returns-in-20041 : goal.returns-in-20041
unfolding kind_of
returns-in-20041 c = by_key _ 0x4E49 _ c.in-20041.is c.mark.ensures c.if-rest-lt2.false

pub returns-in-20056 : goal.returns-in-20056
unfolding kind_of
returns-in-20056 c = by_key _ 0x4E58 _ c.in-20056.is c.mark.ensures c.if-rest-lt2.false

pub returns-in-20039 : goal.returns-in-20039
unfolding kind_of
returns-in-20039 c = by_key _ 0x4E47 _ c.in-20039.is c.mark.ensures c.if-rest-lt2.false

pub returns-in-20040 : goal.returns-in-20040
unfolding kind_of
returns-in-20040 c = by_key _ 0x4E48 _ c.in-20040.is c.mark.ensures c.if-rest-lt2.false

pub returns-in-20047 : goal.returns-in-20047
unfolding kind_of
returns-in-20047 c = by_key _ 0x4E4F _ c.in-20047.is c.mark.ensures c.if-rest-lt2.false

pub returns-in_default : goal.returns-in_default
returns-in_default c =
    let x = c.mark.result in
    let a : x ≡ 0x4E49 → ⊥ = omega arith in
    let b : x ≡ 0x4E58 → ⊥ = omega arith in
    let d : x ≡ 0x4E47 → ⊥ = omega arith in
    let e : x ≡ 0x4E48 → ⊥ = omega arith in
    let f : x ≡ 0x4E4F → ⊥ = omega arith in
    none _ Unit (((((tt, a), b), d), e), f) ∙ ap kind_of c.mark.ensures ∙ long _ c.if-rest-lt2.false
