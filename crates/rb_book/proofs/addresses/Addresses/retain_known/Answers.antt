use Rattle.std.proofs.Common.{rules, ◌∙◌, ◌&&◌, ap}
use Rattle.std.specs.Set.{is_member}
use Rattle.std.specs.Str.{bytes_eq}
use Rattle.std.proofs.lemmas.Cmp.{nat_list_eq_equiv}
use Rattle.std.proofs.lemmas.Fn.{filter_same}
use Rattle.std.proofs.lemmas.Map.Made.{is_member-filter}
use Rattle.std.proofs.lemmas.Slice.Eq.{bytes_eq-Decides}
use Rattle.rb_book.specs.Book.{is_known_address}
use Rattle.rb_book.proofs.addresses.Addresses.retain_known.Goals as goal

pub returns : goal.returns
returns g c = λ a.
    let has = is_known_address c.args.sets.now in
    ap (λ ks. is_member bytes_eq ks a) (filter_same _ has _ (λ x b f' k. search rules) _ _ c.retain.ensures.filtered)
    ∙ is_member-filter nat_list_eq_equiv has a (λ x e. ap has ((bytes_eq-Decides a x).0 e)) c.self.inside.known.keys
    ∙ ap (λ ks. is_member bytes_eq ks a && has a) c.self.view_is
