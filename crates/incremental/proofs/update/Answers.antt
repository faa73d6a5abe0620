-- `incremental::update` meets its contract. Assumes nothing.
use native.Mathlib.Omega.{arith}
use Rattle.incremental.proofs.Updates.{update-first}
use Rattle.incremental.proofs.update.Goals as goal

pub update_from-requires : goal.update_from-requires
update_from-requires c =
    let a = c.args in record { net_ok = c.requires.net_ok; count_le_row_words = (c.requires.count_le_row_words.0, omega arith); begun = record { old = a.rows.now; sim = c.requires.rows; so_far = update-first a.arity.now a.fanins.now a.before.now a.tables.now a.rows.now a.n a.m a.count c.requires.rows 0 (omega arith) c.requires.count_le_row_words.1 (λ g h. absurd (omega arith)) }; masked = c.fanin_masks-masks.ensures }
