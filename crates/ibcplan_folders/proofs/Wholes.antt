-- What is made of what is left: of the whole fleet, where nothing is left out.
use Rattle.std.proofs.Common.{◌≡◌, ℕ, Bool, true, false, if◌then◌else◌, Ok, Err, refl, sym, ap, ◌∙◌, subst, arith}
use Rattle.std.specs.Prelude.{Result, String, IfOk, is_some, string_bytes}
use Rattle.std.specs.Global.{Global}
use Rattle.rb_import.specs.Openings.{Opens, hold_verdicts}
use Rattle.rb_import_check.specs.declared.signed.Signatures.{Signatures}
use Rattle.rb_import_setup.specs.declared.setup.ImportSetup.{ImportSetup}
use Rattle.rb_import_merge.specs.Seen.{HoldsOfSeen}
use Rattle.rb_import_merge.specs.declared.seen.SeenSetup.{SeenSetup}
use Rattle.ibcplan_folders.specs.declared.importing.ImportedText.{ImportedText}
use Rattle.ibcplan_folders.specs.declared.left_out.Fleet.{Fleet}
use Rattle.ibcplan_folders.specs.declared.left_out.LeftOut.{LeftOut}
use Rattle.ibcplan_folders.specs.Files.{HoldsOfRest}
use Rattle.ibcplan_folders.specs.Leavings.{StaysWhole}
use Rattle.ibcplan_folders.specs.LeftOut.{import_status}

abbrev status_if : Bool → ℕ
status_if b = if b then 7 else 0

pub nothing : (b : Bool) → status_if b ≡ status_if false → b ≡ false
nothing true e = absurd (omega (arith, e))
nothing false e = refl

-- where the status is 0 nothing was left out before
pub none_before : (l : LeftOut) (status : ℕ) → (is_some l.first ≡ true → status ≡ 7) → status ≡ 0 → import_status l ≡ 0
none_before l status some zero = go (is_some l.first) some
  where
    go : (b : Bool) → (b ≡ true → status ≡ 7) → status_if b ≡ 0
    go true some = let seven = some refl in absurd (omega (arith, seven, zero))
    go false some = refl

pub whole_after : (a b c : LeftOut) (r s t : ImportSetup) → StaysWhole a b r s → StaysWhole b c s t → StaysWhole a c r t
whole_after a b c r s t first second none =
    let before = second none in
    let begun = first before.0 in
    (begun.0, before.1 ∙ begun.1)

-- where the status is 0 the script is that of the whole fleet
pub whole_script : {E : Type 0} (fleet left : Fleet) (l : LeftOut) (r : Result ImportedText E) (text : String Global) → (is_some l.first ≡ false → left ≡ fleet)
    → Opens (hold_verdicts left.answers) (string_bytes text) → IfOk r (λ t. t.script ≡ text) → IfOk r (λ t. t.status ≡ import_status l)
    → IfOk r (λ t. t.status ≡ 0 → Opens (hold_verdicts fleet.answers) (string_bytes t.script))
whole_script fleet left l (Err e) text whole opens script status = tt
whole_script fleet left l (Ok t) text whole opens script status =
    λ zero. subst (λ (s : String Global). Opens (hold_verdicts fleet.answers) (string_bytes s)) (sym script)
    (subst (λ (f : Fleet). Opens (hold_verdicts f.answers) (string_bytes text)) (whole (nothing (is_some l.first) (sym status ∙ zero))) opens)

-- of what was made this part is that of a call
pub part_of : {T E X : Type 0} (r : Result T E) (part : T → X) (x : X) (Holds : X → Type 0) → Holds x → IfOk r (λ t. part t ≡ x) → IfOk r (λ t. Holds (part t))
part_of (Err e) part x Holds of same = tt
part_of (Ok t) part x Holds of same = subst Holds (sym same) of

-- else it is of what is left
pub of_rest : {T E : Type 0} (fleet left : Fleet) (l : LeftOut) (r : Result T E) (status : T → ℕ) (Holds : Fleet → T → Type 0) → (is_some l.first ≡ false → left ≡ fleet)
    → IfOk r (Holds left) → IfOk r (λ t. status t ≡ import_status l) → IfOk r (λ t. HoldsOfRest fleet (status t) (λ rest. Holds rest t))
of_rest fleet left l (Err e) status Holds whole is told = tt
of_rest fleet left l (Ok t) status Holds whole is told = (left, (λ zero. whole (nothing (is_some l.first) (sym told ∙ zero))), is)

-- of a script and its notices the script
pub of_seen : {N : SeenSetup → Type 0} (fleet : Fleet) (called s : Signatures) (Holds : SeenSetup → Type 0) → called ≡ s
    → HoldsOfSeen fleet.setup called fleet.answers (λ seen. N seen × Holds seen) → HoldsOfSeen fleet.setup s fleet.answers Holds
of_seen fleet called s Holds is (seen, of, holds) = subst (λ x. HoldsOfSeen fleet.setup x fleet.answers Holds) is (seen, of, holds.1)

-- where something was left out before, the status is 7
pub in_part : {T E : Type 0} (before l : LeftOut) (r : Result T E) (status : T → ℕ) → (is_some before.first ≡ true → is_some l.first ≡ true)
    → IfOk r (λ t. status t ≡ import_status l) → IfOk r (λ t. is_some before.first ≡ true → status t ≡ 7)
in_part before l (Err e) status stays told = tt
in_part before l (Ok t) status stays told = λ some. told ∙ ap status_if (stays some)
