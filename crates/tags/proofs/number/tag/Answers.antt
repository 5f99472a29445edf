use Rattle.std.proofs.Common.{sym}
use Rattle.std.proofs.lemmas.Nat.{mul-mod}
use Rattle.tags.specs.Numbers.{prime}
use Rattle.tags.proofs.number.tag.Goals as goal

pub returns-clause-value : goal.returns-clause-value
returns-clause-value c = sym (mul-mod c.args.key c.args.number prime)
