-- The tests of what an answer tells decide the facts that they are named after.
use Rattle.std.proofs.Common.{◌≡◌, ℕ, List, Bool, true, false, Result, Ok, Err, Option, Some, None, SomeIff, MatchResult, option_map, Bor, refl, ap}
use Rattle.std.specs.Result.{OkIff, result_ok}
use Rattle.std.specs.Str.{IsUtf8, is_utf8}
use Rattle.std.proofs.lemmas.Bool.{false_from_ne_true, and_parts, and_from, le-leb, leb-true, lt-ltb, ltb-true}
use Rattle.std.proofs.lemmas.Str.{is_utf8-from_IsUtf8, IsUtf8-from_is_utf8}
use Rattle.serde_json.specs.Data.{Data}
use Rattle.serde_json.specs.Read.{read as read_text}
use Rattle.rb_base.specs.Amount.{IsPeriod}
use Rattle.rb_valset.specs.declared.key.PublicKey.{PublicKey}
use Rattle.rb_valset.specs.Validator.{Member, IsPower, max_power}
use Rattle.rb_import_json.proofs.Values.{by_test, some_iff}
use Rattle.rb_import_answers.specs.Validators.{member_of}
use Rattle.rb_import_answers.specs.Clients.{period_of}
use Rattle.rb_import_answers.specs.Packets.{if_utf8}
use Rattle.rb_import_answers.specs.Answers.{json}

pub made_period : (r : Option ℕ) (n : ℕ) → SomeIff r (IsPeriod n) n → r ≡ period_of n
unfolding period_of
made_period r n h =
    by_test r _ _ _ (λ p. and_from _ _ (le-leb 1 n p.0) (lt-ltb n _ p.1)) (λ e. let p = and_parts _ _ e in (leb-true 1 n p.0, ltb-true n _ p.1)) h

pub made_member : {E : Type 0} (r : Result Member E) (key : PublicKey) (power : ℕ) → OkIff r (IsPower power) (record { key = key; power = power }) → result_ok r ≡ member_of key power
unfolding member_of
made_member r key power h =
    by_test (result_ok r) _ _ _ (λ p. and_from _ _ (lt-ltb 0 power p.0) (le-leb power max_power p.1)) (λ e. let p = and_parts _ _ e in (ltb-true 0 power p.0, leb-true power max_power p.1)) (some_iff r _ _ h)

pub ruleset periods = (made_period)

pub ruleset members = (made_member)

pub utf8_text : {E : Type 0} (V : E → Type 0) (bytes : List ℕ) (r : Result (Bor (List ℕ)) E) → MatchResult r (λ s. (s.now ≡ bytes) × IsUtf8 bytes) (λ e. (¬ IsUtf8 bytes) × V e) → option_map (λ t. t.now) (result_ok r) ≡ if_utf8 bytes
utf8_text V bytes (Ok s) h = rw (is_utf8-from_IsUtf8 bytes h.1) (ap Some h.0)
utf8_text V bytes (Err e) h = rw (false_from_ne_true (is_utf8 bytes) (λ t. h.0 (IsUtf8-from_is_utf8 bytes t))) refl

pub json-some : (bytes : List ℕ) (d : Data) → IsUtf8 bytes × (read_text bytes ≡ Some d) → json bytes ≡ Some d
unfolding json
json-some bytes d h = rw (is_utf8-from_IsUtf8 bytes h.0) h.1

json-at : (bytes : List ℕ) (b : Bool) → is_utf8 bytes ≡ b → (IsUtf8 bytes → read_text bytes ≡ None) → json bytes ≡ None
unfolding json
json-at bytes true e h = rw e (h (IsUtf8-from_is_utf8 bytes e))
json-at bytes false e h = rw e refl

pub json-none : (bytes : List ℕ) → (IsUtf8 bytes → read_text bytes ≡ None) → json bytes ≡ None
json-none bytes h = json-at bytes (is_utf8 bytes) refl h
