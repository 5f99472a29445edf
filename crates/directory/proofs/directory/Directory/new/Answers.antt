use Rattle.std.proofs.Common.{sym, ◌∙◌}
use Rattle.directory.proofs.Keyring.{table_ascends}
use Rattle.directory.proofs.directory.Directory.new.Goals as goal

pub invariant_of-result-clause-ascends : goal.invariant_of-result-clause-ascends
invariant_of-result-clause-ascends c =
    rw c.copy_from_slice.ensures.after (table_ascends c.args.keys.now _ (sym c.ascends.ensures ∙ c.if-not-ascends.false))
