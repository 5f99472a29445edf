use Rattle.std.proofs.Common.{◌≡◌, ltb, length, take, Err, sym, ap, ◌∙◌, rules}
use Rattle.std.specs.Array.{IsFirstChunk}
use Rattle.std.proofs.lemmas.Bool.{cond-false, le-ltb}
use Rattle.values.specs.declared.refusal.Refusal.TheVariants.{ShortRecord}
use Rattle.calls.specs.Layout.{fields_in, layout}
use Rattle.calls.specs.Records.{read_fields}
use Rattle.calls.proofs.Laid.{fields_in_front}
use Rattle.calls.proofs.Onlyread.{only_writing}
use Rattle.calls.proofs.records.read.Goals as goal

pub returns : goal.returns
returns g c =
    let b = c.args.bytes.now in
    let named = g.P.Payload.named in
    let words = g.P.Payload.words in
    let f = c.from_bytes.result in
    let first : IsFirstChunk b c.in_ok-front.front.now 88 = search rules in
    let exact : layout f ≡ take 88 b = c.from_bytes.ensures.exact ∙ first.same in
    record {
      value =
          c.try_from.ensures
          ∙ ap (read_fields named) (c.from_bytes.ensures.value ∙ ap fields_in first.same ∙ fields_in_front f b exact)
          ∙ sym (cond-false (ltb (length b) 88) (Err ShortRecord) (read_fields named (fields_in b)) (le-ltb (length b) 88 first.enough));
      only = only_writing words named g.met.P.Payload.sound c.try_from.result f (take 88 b) c.try_from.ensures exact;
    }
