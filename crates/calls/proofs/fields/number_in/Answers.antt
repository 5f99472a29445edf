use Rattle.std.proofs.Common.{◌≡◌, ◌∙◌, arith}
use Rattle.calls.specs.Layout.{number_in}
use Rattle.calls.proofs.Digits.{padded, small}
use Rattle.calls.proofs.fields.number_in.Goals as goal

value : (c : goal.After-from_le_bytes) → c.from_le_bytes.result ≡ number_in c.args.part.now
value c = c.from_le_bytes.ensures ∙ rw c.copy_from_slice.ensures.after (padded c.args.part.now c.requires)

pub returns : goal.returns
returns c = record {
  value = value c;
  small = rw (value c) (small c.args.part.now (λ k. omega (arith, c.type_inv.part k)));
}
