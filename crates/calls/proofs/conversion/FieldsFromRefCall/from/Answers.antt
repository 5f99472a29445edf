use Rattle.std.proofs.Common.{◌≡◌, ◌∙◌, ap, rules, subst}
use Rattle.std.specs.Option.{option_map_or}
use Rattle.values.specs.Kinds.{kind_number, kind_of}
use Rattle.values.specs.Payloads.{no_words}
use Rattle.calls.specs.Records.{fields_of, read_fields}
use Rattle.calls.proofs.Unread.{mapped, told, Told, fields_back}
use Rattle.calls.proofs.conversion.FieldsFromRefCall.from.Goals as goal

pub returns : goal.returns
returns g c =
    let words = g.P.Payload.words in
    let named = g.P.Payload.named in
    let o = c.proposal-proposal.result in
    let kind : c.map_or.result ≡ option_map_or (λ s. kind_number (kind_of s)) c.subject.result 0 = search (rules, mapped) in
    let parent : c.map_or-2.result ≡ option_map_or (λ p. p.parent) o 0 = search (rules, mapped) in
    let word : c.map_or-3.result ≡ option_map_or (λ p. words p.payload) o c.default.result = search (rules, mapped) in
    let z = c.default.ensures in
    let zero : c.default.result ≡ no_words = λ i. record { w1 = z.0 i; w2 = z.1.0 i; w3 = z.1.1.0 i; w4 = z.1.1.1 i } in
    let t : Told words named o = told words named o c.default.result c.map_or-3.result (search rules) in
    let v : _ ≡ fields_of words c.args.call.now = cc in
    (v, ap (read_fields named) v ∙ fields_back words named c.args.call.now (subst (Told words named) c.proposal-proposal.ensures t))
