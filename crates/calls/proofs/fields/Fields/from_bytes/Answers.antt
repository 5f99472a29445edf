use Rattle.std.proofs.Common.{rules, ap, ◌∙◌, arith}
use Rattle.std.proofs.lemmas.List.{take_all}
use Rattle.calls.specs.Layout.{layout}
use Rattle.calls.proofs.Laid.{layout_of_fields}
use Rattle.calls.proofs.fields.Fields.from_bytes.Goals as goal

pub returns-clause-value : goal.returns-clause-value
returns-clause-value c = search rules

pub returns-clause-exact : goal.returns-clause-exact
returns-clause-exact c =
    let b = c.args.bytes.now in
    ap layout (returns-clause-value c) ∙ layout_of_fields b (λ k. omega (arith, c.fits-bytes k)) (omega arith) ∙ take_all 88 b (omega arith)
