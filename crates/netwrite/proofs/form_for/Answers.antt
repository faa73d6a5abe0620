use mathlib.Core.Path.{refl}
use native.Mathlib.Omega.{arith}
use borrow.Author.Tests.{le-leb, lt-leb}
use Rattle.network.specs.Load.{narrow}
use Rattle.netwrite.proofs.form_for.Goals as goal

pub returns-then-k-le-NARROW_MOST : goal.returns-then-k-le-NARROW_MOST
returns-then-k-le-NARROW_MOST c = rw (le-leb _ narrow.most c.if-k-le-NARROW_MOST.true) (refl, refl, omega arith)

pub returns : goal.returns
returns c = rw (lt-leb _ narrow.most c.if-k-le-NARROW_MOST.false) (refl, refl, omega arith)
