-- The first of the packets that were sent.
use Rattle.std.proofs.Common.{◌≡◌, ◌≢◌, ℕ, zero, suc, ◌+◌, ◌<◌, ◌⊎◌, List, [], ◌∷◌, ◌++◌, length, get_or, drop, drop-cons, add-one, Bool, true, false, cond, ◌&&◌, Option, Some, None, inl, inr, refl, sym, subst, ap, ◌∙◌, arith}
use Rattle.std.specs.Prelude.{is_some, not, option_map, string_bytes}
use Rattle.std.specs.Option.{option_or}
use Rattle.std.specs.Str.{bytes_eq}
use Rattle.std.proofs.lemmas.Bool.{and_parts, true≢false}
use Rattle.std.proofs.lemmas.Option.{none-some, same_Some}
use Rattle.std.proofs.lemmas.Slice.Eq.{bytes_eq-Decides}
use Rattle.rb_import_answers.specs.declared.packets.PacketEvent.{PacketEvent}
use Rattle.rb_import_setup.specs.declared.setup.PathSetup.{PathSetup}
use Rattle.rb_import_check.specs.declared.saved.Saved.{Saved}
use Rattle.rb_import_merge.specs.declared.counterparties.Counterparties.{Counterparties}
use Rattle.rb_import_merge.specs.Counterparties.{AreCounterparties, HasSeveral, IsSentTo}
use Rattle.rb_import_merge.specs.Packets.{events_in, events_of, first_dest, is_other, is_sending}

-- whether an event is one that is searched
abbrev is_it : PathSetup → Option (List ℕ) → PacketEvent → Bool
is_it setup but e = is_other but (string_bytes e.dest) && is_sending setup e

-- ---- event by event, answer by answer

or_at : (b : Bool) (d : List ℕ) (o p : Option (List ℕ)) → cond b (Some d) (option_or o p) ≡ option_or (cond b (Some d) o) p
or_at true d o p = refl
or_at false d o p = refl

-- the first one of two lists is the first one's, or else the second one's
joined : (setup : PathSetup) (but : Option (List ℕ)) (xs ys : List PacketEvent) → first_dest setup but (xs ++ ys) ≡ option_or (first_dest setup but xs) (first_dest setup but ys)
joined setup but [] ys = refl
joined setup but (e ∷ es) ys =
    ap (cond (is_it setup but e) (Some (string_bytes e.dest))) (joined setup but es ys)
    ∙ or_at (is_it setup but e) (string_bytes e.dest) (first_dest setup but es) (first_dest setup but ys)

-- the events of the answers that are left are the next one's, and those of the others
left : (answers : List Saved) (i : ℕ) (s : Saved) → i < length answers → s ≡ get_or answers i s → events_of (drop i answers) ≡ events_in s.answer ++ events_of (drop (i + 1) answers)
left answers i s small is =
    ap events_of (drop-cons answers i s small) ∙ ap (λ (t : Saved). events_in t.answer ++ events_of (drop (suc i) answers)) (sym is)
    ∙ ap (λ j. events_in s.answer ++ events_of (drop j answers)) (sym (add-one i))

pub not_here : (setup : PathSetup) (but : Option (List ℕ)) (answers : List Saved) (i : ℕ) (s : Saved) → i < length answers → s ≡ get_or answers i s
    → None ≡ first_dest setup but (events_in s.answer) → first_dest setup but (events_of (drop (i + 1) answers)) ≡ first_dest setup but (events_of (drop i answers))
not_here setup but answers i s small is none =
    ap (λ o. option_or o (first_dest setup but (events_of (drop (i + 1) answers)))) none
    ∙ sym (ap (first_dest setup but) (left answers i s small is) ∙ joined setup but (events_in s.answer) (events_of (drop (i + 1) answers)))

pub it_is_here : (setup : PathSetup) (but : Option (List ℕ)) (answers : List Saved) (i : ℕ) (s : Saved) (d : List ℕ) → i < length answers → s ≡ get_or answers i s
    → Some d ≡ first_dest setup but (events_in s.answer) → Some d ≡ first_dest setup but (events_of (drop i answers))
it_is_here setup but answers i s d small is some =
    ap (λ o. option_or o (first_dest setup but (events_of (drop (i + 1) answers)))) some
    ∙ sym (ap (first_dest setup but) (left answers i s small is) ∙ joined setup but (events_in s.answer) (events_of (drop (i + 1) answers)))

pub ruleset searching = (not_here, it_is_here)

-- ---- destinations

chosen : (b : Bool) (x d : List ℕ) (o : Option (List ℕ)) → cond b (Some x) o ≡ Some d → ((b ≡ true) × (x ≡ d)) ⊎ (o ≡ Some d)
chosen true x d o e = inl (refl, same_Some x d e)
chosen false x d o e = inr e

passed : (b : Bool) (x : List ℕ) (o : Option (List ℕ)) → cond b (Some x) o ≡ None → (b ≡ false) × (o ≡ None)
passed true x o e = absurd (none-some x (sym e))
passed false x o e = (refl, e)

-- a packet was sent to the first one, which is another one
sent_to_first : (setup : PathSetup) (but : Option (List ℕ)) (events : List PacketEvent) (d : List ℕ) → first_dest setup but events ≡ Some d → IsSentTo setup events d × (is_other but d ≡ true)
sent_to_first setup but [] d h = absurd (none-some d h)
sent_to_first setup but (e ∷ es) d h = elim (chosen (is_it setup but e) (string_bytes e.dest) d (first_dest setup but es) h) [
  | inl here ↦ (let parts = and_parts _ _ here.0 in ((0, e, omega arith, refl, (parts.1, here.1)), subst (λ x. is_other but x ≡ true) here.1 parts.0))
  | inr later ↦ (let found = sent_to_first setup but es d later in ((suc found.0.0, found.0.1, omega (arith, found.0.2), found.0.3, found.0.4), found.1))
]

second_false : (a b : Bool) → (a && b) ≡ false → b ≡ true → a ≡ false
second_false true b e h = absurd (true≢false (sym h ∙ e))
second_false false b e h = refl

-- where there is no first one, no packet was sent to another one
sent_to_none : (setup : PathSetup) (but : Option (List ℕ)) (events : List PacketEvent) (d : List ℕ) → first_dest setup but events ≡ None → IsSentTo setup events d → is_other but d ≡ false
sent_to_none setup but [] d h (k, e, small, is, sent) = absurd (omega (arith, small))
sent_to_none setup but (e ∷ es) d h (zero, x, small, is, (sending, to)) =
    let not_it : is_it setup but e ≡ false = (passed (is_it setup but e) (string_bytes e.dest) (first_dest setup but es) h).0 in
    let dest : string_bytes e.dest ≡ d = ap (λ (y : PacketEvent). string_bytes y.dest) is ∙ to in
    subst (λ y. is_other but y ≡ false) dest
    (second_false (is_other but (string_bytes e.dest)) (is_sending setup e) not_it (ap (is_sending setup) is ∙ sending))
sent_to_none setup but (e ∷ es) d h (suc k, x, small, is, sent) =
    sent_to_none setup but es d (passed (is_it setup but e) (string_bytes e.dest) (first_dest setup but es) h).1 (k, x, omega (arith, small), is, sent)

not_true : (b : Bool) → not b ≡ false → b ≡ true
not_true true e = refl
not_true false e = absurd (true≢false e)

not_false : (b : Bool) → not b ≡ true → b ≡ true → ⊥
not_false true e h = true≢false (sym e)
not_false false e h = true≢false (sym h)

-- ---- whether there are several

no_one : {A : Type 0} (o : Option A) → is_some o ≡ false → o ≡ None
no_one None e = refl
no_one (Some x) e = absurd (true≢false e)

pub nothing_sent : (setup : PathSetup) (events : List PacketEvent) → first_dest setup None events ≡ None → ¬ HasSeveral setup events
nothing_sent setup events none (open_end, (dest, other, apart, to, away)) = true≢false (sent_to_none setup None events dest none to)

pub sent_to_one : (setup : PathSetup) (events : List PacketEvent) (taken : List ℕ) → first_dest setup (Some taken) events ≡ None → ¬ HasSeveral setup events
sent_to_one setup events taken none (open_end, (dest, other, apart, to, away)) = apart (sym (is dest to) ∙ is other away)
  where
    is : (d : List ℕ) → IsSentTo setup events d → taken ≡ d
    is d there = (bytes_eq-Decides taken d).0 (not_true (bytes_eq taken d) (sent_to_none setup (Some taken) events d none there))

pub sent_to_several : (setup : PathSetup) (events : List PacketEvent) (c : Counterparties) → is_some setup.counterparty ≡ false → first_dest setup None events ≡ Some c.taken.now
    → first_dest setup (Some c.taken.now) events ≡ Some c.other.now → HasSeveral setup events × AreCounterparties setup events c
sent_to_several setup events c unnamed first second =
    let none : setup.counterparty ≡ None = no_one setup.counterparty unnamed in
    let taken : List ℕ = c.taken.now in
    let other : List ℕ = c.other.now in
    let there = sent_to_first setup None events taken first in
    let away = sent_to_first setup (Some taken) events other second in
    let apart : other ≢ taken = λ same. not_false (bytes_eq taken other) away.1 ((bytes_eq-Decides taken other).1 (sym same)) in
    ((none, (other, taken, apart, away.0, there.0)), (ap (λ o. option_or (option_map string_bytes o) (first_dest setup None events)) none ∙ first, apart, away.0))
