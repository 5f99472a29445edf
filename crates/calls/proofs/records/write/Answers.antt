use Rattle.std.proofs.Common.{ltb, ◌++◌, length, drop, Err, sym, ap, ◌∙◌, arith, length-append}
use Rattle.std.proofs.lemmas.Bool.{cond-false, le-ltb}
use Rattle.values.specs.declared.refusal.Refusal.TheVariants.{ShortRecord}
use Rattle.calls.specs.Layout.{fields_in, layout}
use Rattle.calls.specs.Records.{read_fields, written_of}
use Rattle.calls.proofs.records.write.Goals as goal

pub returns-clause-after : goal.returns-clause-after
returns-clause-after g c =
    let b = c.args.bytes.now in
    let w = written_of g.P.Payload.words c.args.call.now in
    ap (λ x. x ++ drop 88 b) (c.to_bytes.ensures.value ∙ ap layout c.from.ensures.0)
    ∙ sym (cond-false (ltb (length b) 88) b (w ++ drop 88 b) (le-ltb (length b) 88 c.in-Some.ensures.cases.enough))

pub returns-clause-back : goal.returns-clause-back
returns-clause-back g c =
    let named = g.P.Payload.named in
    let rest = drop 88 c.args.bytes.now in
    let b = c.to_bytes.result ++ rest in
    cond-false (ltb (length b) 88) (Err ShortRecord) (read_fields named (fields_in b)) (le-ltb (length b) 88 (simp length-append (omega arith)))
    ∙ ap (read_fields named) (c.to_bytes.ensures.exact rest)
    ∙ c.from.ensures.1
