use Rattle.std.proofs.Common.{◌≡◌, List, [], ◌∷◌, ◌++◌, sym, ap, ◌∙◌}
use Rattle.rb_script_read.specs.declared.names.Naming.{Naming}
use Rattle.rb_script_read.specs.Names.{Names, no_names, with_name, with_namings, names_of}
use Rattle.rb_script_read.proofs.TurnNamesLemmas.{naming-more}
use Rattle.rb_script_read.proofs.turn_names.TurnNames.add.Goals as goal

pub invariant_of-self-in-Break-branch-3 : goal.invariant_of-self-in-Break-branch-3
invariant_of-self-in-Break-branch-3 c = record {
  named = λ chain name.
      ap (λ (f : Names). f chain name) c.in_err-add.ensures.unchanged ∙ c.args.self.now.named chain name
      ∙ sym (ap (λ ns. with_namings no_names ns chain name) c.try_reserve.ensures.items);
}

pub invariant_of-self-2 : goal.invariant_of-self-2
invariant_of-self-2 c =
    let namings = c.args.self.now.namings.items in
    let more : Naming = record { chain = c.args.chain; name = c.in_ok-given.given; hash = c.args.hash } in
    let same : names_of c.args.self.now.own ≡ with_namings no_names namings = λ i chain name. c.args.self.now.named chain name i in
    let items : c.push_reserved.new.self.items ≡ namings ++ more ∷ [] =
    c.push_reserved.ensures.items ∙ ap (λ (ns : List Naming). ns ++ more ∷ []) c.try_reserve.ensures.items in
    let whole : names_of c.add.new.self ≡ with_namings no_names c.push_reserved.new.self.items =
    c.in_ok-add.ensures.added ∙ ap (with_name c.args.chain c.args.name.now c.args.hash) same
    ∙ ap (λ name. with_name c.args.chain name c.args.hash (with_namings no_names namings)) (sym c.in_ok-given.ensures.ok)
    ∙ sym (naming-more no_names namings more) ∙ ap (with_namings no_names) (sym items) in
    record { named = λ chain name. ap (λ (f : Names). f chain name) whole }
