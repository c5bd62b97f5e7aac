use Rattle.std.proofs.Common.{◌≡◌, ℕ, List, length, vec_len, map, codes, sym, ap, ◌∙◌, arith}
use Rattle.std.specs.List.{position}
use Rattle.std.specs.Str.{bytes_eq}
use Rattle.std.proofs.lemmas.List.{length-map}
use Rattle.rb_script_toml.specs.declared.fault.FaultName.TheVariants.{UnknownIdentifier}
use Rattle.rb_script_types.specs.declared.config.ClientConfig.{ClientConfig}
use Rattle.rb_script_types.specs.Script.{script_view, turn_view}
use Rattle.rb_text_report.specs.Certificates.{certificate_view}
use Rattle.rb_text.proofs.Cases.{case-found, case-unknown}
use Rattle.rb_script_toml.proofs.Steps.{fails-at}
use Rattle.rb_text.proofs.case.case_in.Goals as goal

pub returns-in-Some-clause-read : goal.returns-in-Some-clause-read
returns-in-Some-clause-read c =
    let turns = c.args.script.turns in
    let counted : vec_len turns ≡ length turns.items = omega (arith, turns.ok.0) in
    case-found (script_view c.args.script) (certificate_view c.args.certificate) c.saturating_sub-turn.result c.in-Some.client c.saturating_sub-turn.ensures
    (omega (arith, c.if-turn-len.false, c.len.ensures, counted, length-map turns.items turn_view))
    (ap (λ (p : List ℕ × List ClientConfig). position (bytes_eq p.0) (map (λ (x : ClientConfig). x.id) p.1)) (λ i. (sym c.as_str.ensures.text i, sym c.as_slice.ensures.value i))
    ∙ sym c.place_of.ensures.place ∙ c.in-Some.is)

pub returns-in-None-clause-read : goal.returns-in-None-clause-read
returns-in-None-clause-read c =
    let turns = c.args.script.turns in
    let counted : vec_len turns ≡ length turns.items = omega (arith, turns.ok.0) in
    rw (case-unknown (script_view c.args.script) (certificate_view c.args.certificate) c.saturating_sub-turn.result c.saturating_sub-turn.ensures
    (omega (arith, c.if-turn-len.false, c.len.ensures, counted, length-map turns.items turn_view))
    (ap (λ (p : List ℕ × List ClientConfig). position (bytes_eq p.0) (map (λ (x : ClientConfig). x.id) p.1)) (λ i. (sym c.as_str.ensures.text i, sym c.as_slice.ensures.value i))
    ∙ sym c.place_of.ensures.place ∙ c.in-None.is))
    (fails-at _ c.fault_at-in-None.result UnknownIdentifier (codes "client") c.fault_at-in-None.ensures)
