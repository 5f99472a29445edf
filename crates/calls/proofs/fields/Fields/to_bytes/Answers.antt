use Rattle.std.proofs.Common.{◌≡◌, ◌%◌, ◌++◌, ◌∙◌, ap, take, arith}
use Rattle.calls.specs.Layout.{fields_in}
use Rattle.calls.proofs.Digits.{word_bytes, half_bytes, number_of_bytes}
use Rattle.calls.proofs.Laid.{fields_of_layout}
use Rattle.calls.proofs.fields.Fields.to_bytes.Goals as goal

pub returns-clause-value : goal.returns-clause-value
returns-clause-value c =
    let f = c.args.self in
    let call : f.call % 256 ≡ f.call = omega arith in
    let kind : f.kind % 256 ≡ f.kind = omega arith in
    rw (
      c.copy_from_slice.ensures.after ∙ ap (take 6) (c.to_le_bytes.ensures ∙ word_bytes f.gap),
      c.copy_from_slice-2.ensures.after ∙ c.to_le_bytes-2.ensures ∙ word_bytes f.key,
      c.copy_from_slice-3.ensures.after ∙ c.to_le_bytes-3.ensures ∙ half_bytes f.participant,
      c.copy_from_slice-4.ensures.after ∙ c.to_le_bytes-4.ensures ∙ half_bytes f.space,
      c.copy_from_slice-5.ensures.after ∙ c.to_le_bytes-5.ensures ∙ word_bytes f.round.epoch,
      c.copy_from_slice-6.ensures.after ∙ c.to_le_bytes-6.ensures ∙ word_bytes f.round.view,
      c.copy_from_slice-7.ensures.after ∙ c.to_le_bytes-7.ensures ∙ word_bytes f.parent,
      c.copy_from_slice-8.ensures.after ∙ c.to_le_bytes-8.ensures ∙ word_bytes f.words.w1,
      c.copy_from_slice-9.ensures.after ∙ c.to_le_bytes-9.ensures ∙ word_bytes f.words.w2,
      c.copy_from_slice-10.ensures.after ∙ c.to_le_bytes-10.ensures ∙ word_bytes f.words.w3,
      c.copy_from_slice-11.ensures.after ∙ c.to_le_bytes-11.ensures ∙ word_bytes f.words.w4,
      c.copy_from_slice-12.ensures.after ∙ c.to_le_bytes-12.ensures ∙ word_bytes f.signature,
      call,
      kind,
    )

pub returns-clause-exact : goal.returns-clause-exact
returns-clause-exact c rest =
    let f = c.args.self in
    ap (λ x. fields_in (x ++ rest)) (returns-clause-value c)
    ∙ fields_of_layout f rest
    (number_of_bytes 1 f.call (omega arith)) (number_of_bytes 1 f.kind (omega arith)) (number_of_bytes 6 f.gap (omega arith))
    (number_of_bytes 8 f.key (omega arith)) (number_of_bytes 4 f.participant (omega arith)) (number_of_bytes 4 f.space (omega arith))
    (number_of_bytes 8 f.round.epoch (omega arith)) (number_of_bytes 8 f.round.view (omega arith)) (number_of_bytes 8 f.parent (omega arith))
    (number_of_bytes 8 f.words.w1 (omega arith)) (number_of_bytes 8 f.words.w2 (omega arith)) (number_of_bytes 8 f.words.w3 (omega arith))
    (number_of_bytes 8 f.words.w4 (omega arith)) (number_of_bytes 8 f.signature (omega arith))
