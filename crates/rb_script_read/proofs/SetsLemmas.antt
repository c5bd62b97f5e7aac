-- Validators that are read, and the set that is made of them.
use Rattle.std.proofs.Common.{◌≡◌, ◌≢◌, ℕ, ◌+◌, ◌<◌, List, [], ◌∷◌, ◌++◌, length, map, take, get_or, true, false, Ok, refl, ap, ◌∙◌}
use Rattle.std.proofs.lemmas.Bool.{and_from, and_parts, false_from_ne_true, lt-ltb, ltb-true, le-leb, leb-true}
use Rattle.std.proofs.lemmas.List.{take_more, map_push}
use Rattle.toml.specs.declared.value.Value.{Value}
use Rattle.toml.specs.View.{items_view}
use Rattle.std.proofs.lemmas.List.Folds.{list_all-map, list_all_at, list_all-append}
use Rattle.rb_valset.specs.Validator.{Member, IsPower, max_power}
use Rattle.rb_script_toml.specs.Faults.{fault}
use Rattle.rb_script_toml.specs.declared.fault.FaultName.TheVariants.{WrongType, BadSet}
use Rattle.rb_script_read.specs.declared.set.GivenValidator.{GivenValidator}
use Rattle.rb_script_read.specs.Sets.{pair, member_of, is_power, all_powers, with_powers}

-- an array of another length is no validator
pub pair-other : (path : List ℕ) (vs : List Value) → length vs ≢ 2 → pair path (items_view vs) ≡ fault WrongType path
pair-other path [] h = refl
pair-other path (a ∷ []) h = refl
pair-other path (a ∷ b ∷ []) h = absurd (h refl)
pair-other path (a ∷ b ∷ c ∷ vs) h = refl

is_power-true : (n : ℕ) → IsPower n → is_power n ≡ true
is_power-true n h = and_from _ _ (lt-ltb 0 n h.0) (le-leb n max_power h.1)

is_power-false : (n : ℕ) → ¬ IsPower n → is_power n ≡ false
is_power-false n h =
    false_from_ne_true _ (λ e. let parts = and_parts _ _ e in h (ltb-true 0 n parts.0, leb-true n max_power parts.1))

-- one power that isn't allowed
pub with_powers-fails : (path : List ℕ) (vs : List GivenValidator) (i : ℕ) (d : GivenValidator) → i < length vs → ¬ IsPower (get_or vs i d).power
    → with_powers path (map member_of vs) ≡ fault BadSet path
unfolding with_powers
with_powers-fails path vs i d lt h =
    let bad : all_powers (map member_of vs) ≡ false =
    list_all-map (λ m. is_power m.power) member_of vs ∙ list_all_at (λ v. is_power v.power) vs i d lt (is_power-false _ h) in
    rw bad refl

pub with_powers-holds : (path : List ℕ) (ms : List Member) → all_powers ms ≡ true → with_powers path ms ≡ Ok ms
unfolding with_powers
with_powers-holds path ms h = rw h refl

pub read-more : (vs : List GivenValidator) (i : ℕ) (d : GivenValidator) → i < length vs
    → map member_of (take (i + 1) vs) ≡ map member_of (take i vs) ++ member_of (get_or vs i d) ∷ []
read-more vs i d lt = ap (map member_of) (take_more vs i d lt) ∙ map_push member_of (take i vs) (get_or vs i d)

pub powers-more : (ms : List Member) (m : Member) → all_powers ms ≡ true → IsPower m.power → all_powers (ms ++ m ∷ []) ≡ true
powers-more ms m all one = list_all-append (λ v. is_power v.power) ms (m ∷ []) ∙ and_from _ _ all (and_from _ _ (is_power-true m.power one) refl)
