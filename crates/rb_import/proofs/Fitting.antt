-- What the text of a script begins with, and why there is none.
use Rattle.std.proofs.Common.{◌≡◌, ◌≤◌, ℕ, List, [], ◌∷◌, ◌++◌, Bool, true, false, cond, All, Result, Ok, Err, IfOk, IfErr, get_or, length, string_bytes, inl, inr, refl, ap, ◌∙◌, subst, sym}
use Rattle.std.proofs.lemmas.List.Elements.{All-cons, All-nil}
use Rattle.std.specs.Str.{chars}
use Rattle.std.specs.declared.alloc.Global.{Global}
use Rattle.rb_script_types.specs.Script.{script_view}
use Rattle.rb_script_types.specs.declared.script.Script.{Script as CodeScript}
use Rattle.rb_script_read.specs.Scripts.{script_of}
use Rattle.rb_import_answers.specs.Said.{IsPlain}
use Rattle.rb_import_answers.proofs.PlainTexts.{are_plain}
use Rattle.rb_import_setup.specs.Documents.{max_bytes}
use Rattle.rb_import_setup.specs.declared.setup.ImportSetup.{ImportSetup}
use Rattle.rb_import_check.specs.Errors.{IsTooBig}
use Rattle.rb_import_check.specs.declared.error.CheckError.{CheckError}
use Rattle.rb_import_check.specs.declared.error.ImportError.{ImportError}
use Rattle.rb_import_check.specs.declared.error.ImportError.TheVariants as errors
use Rattle.rb_import_check.specs.declared.saved.SavedAnswers.{SavedAnswers}
use Rattle.rb_import_check.specs.declared.signed.Signatures.{Signatures}
use Rattle.rb_import_merge.specs.declared.errors.ImportErrors.{ImportErrors}
use Rattle.rb_import_merge.specs.declared.errors.ImportErrors.TheVariants as all
use Rattle.rb_import_merge.specs.Errors.{AreAlone, OfEach}
use Rattle.rb_import_merge.specs.Reasons.{HasReasonIn}
use Rattle.rb_import_merge.specs.Seen.{HoldsOfSeen, IsSeenIn}
use Rattle.rb_import_merge.specs.declared.seen.SeenSetup.{SeenSetup}
use Rattle.rb_import_notices.specs.Whole.{AreNoticesOf}
use Rattle.rb_import.specs.Openings.{IsOpening, Opens, credit, hold_verdicts, opening_of, seen_commits, verifier_of, warning, words_of, words_on}
use Rattle.rb_import.specs.Reading.{IsTooMuch}
use Rattle.rb_import.specs.Reasons.{HasReasonOfScript, IsOfSizeOf, NamesLargest}
use Rattle.rb_import.specs.Scripts.{BeginsAs, IsFitting, IsMadeOf, script_in}
use Rattle.rb_import.specs.Texts.{heading}
use Rattle.rb_import.specs.declared.composing.Composed.{Composed}
use Rattle.rb_import.specs.declared.composing.Made.{Made}

line_by : (b : Bool) (words : List ℕ) → All IsPlain words → IsOpening b (cond b (credit words) warning)
line_by true words plain = inl (refl, (words, plain, refl))
line_by false words plain = inr (refl, refl)

words_are_plain : (answers : SavedAnswers) (seen : SeenSetup) → All IsPlain (words_of answers seen)
unfolding words_of
words_are_plain answers seen = are_plain _ (chars (words_on (seen_commits seen) (verifier_of answers))) refl

is_opening : (answers : SavedAnswers) (seen : SeenSetup) → IsOpening (hold_verdicts answers) (opening_of answers seen)
unfolding opening_of
is_opening answers seen = line_by (hold_verdicts answers) (words_of answers seen) (words_are_plain answers seen)

-- the text begins with the opening line and the heading
pub opens_fitting : (setup : ImportSetup) (answers : SavedAnswers) (seen : SeenSetup) (text : List ℕ) → IsFitting setup answers seen text → Opens (hold_verdicts answers) text
unfolding IsFitting
opens_fitting setup answers seen text fitting = (opening_of answers seen, fitting.1.0, is_opening answers seen, fitting.1.1)

pub is_short : (setup : ImportSetup) (answers : SavedAnswers) (seen : SeenSetup) (text : List ℕ) → IsFitting setup answers seen text → length text ≤ max_bytes
unfolding IsFitting
is_short setup answers seen text fitting = fitting.2

-- a text behind the opening line and the heading
pub begins_as : (answers : SavedAnswers) (seen : SeenSetup) (text head : List ℕ) → head ≡ opening_of answers seen ++ heading
    → ((tables : List ℕ) × (text ≡ head ++ tables)) → BeginsAs answers seen text
begins_as answers seen text head is (tables, begins) = (tables, begins ∙ ap (λ h. h ++ tables) is)

-- what follows of each problem by itself
of_each : (P Q : ImportError → Type 0) (e : ImportErrors) → ((p : CheckError) → P (errors.CheckError p) → Q (errors.CheckError p)) → OfEach P e → OfEach Q e
of_each P Q (all.Refused r) follows each = λ k d small. follows (get_or (r.first ∷ r.others.items) k d) (each k d small)
of_each P Q all.NoMemory follows each = tt

-- what holds of a problem holds of each where it is alone
pub of_alone : (Holds : ImportError → Type 0) (p : ImportError) (e : ImportErrors) → AreAlone p e → Holds p → OfEach Holds e
of_alone Holds (errors.CheckError p) (all.Refused r) is holds =
    let Of : CheckError → Type 0 = λ q. Holds (errors.CheckError q) in
    subst (All Of) is (All-cons Of p [] holds (All-nil Of))
of_alone Holds (errors.CheckError p) all.NoMemory is holds = absurd is
of_alone Holds errors.NoMemory e is holds = subst (OfEach Holds) (sym is) tt

-- a reason in the answers is one of the script
pub of_answers : (setup : ImportSetup) (signatures : Signatures) (answers : SavedAnswers) (e : ImportErrors) → OfEach (HasReasonIn setup answers) e → OfEach (HasReasonOfScript setup signatures answers) e
of_answers setup signatures answers e each = of_each (HasReasonIn setup answers) (HasReasonOfScript setup signatures answers) e (λ p w. inl w) each

-- none is that the script would be too big
pub none_too_big : (Tells : ImportError → Type 0) (e : ImportErrors) → OfEach (λ p. ¬ IsTooBig p) e → OfEach (λ p. IsTooBig p → Tells p) e
none_too_big Tells e each = of_each (λ p. ¬ IsTooBig p) (λ p. IsTooBig p → Tells p) e (λ p never big. absurd (never big)) each

-- what was made of what was seen
pub made_in : {E : Type 0} (setup : ImportSetup) (signatures : Signatures) (answers : SavedAnswers) (seen : SeenSetup) (r : Result Made E) → IsSeenIn setup signatures answers seen
    → IfOk r (λ m. AreNoticesOf setup answers seen m.notices) → IfOk r (λ m. IsMadeOf setup answers seen m.script)
    → IfOk r (λ m. HoldsOfSeen setup signatures answers (λ s. AreNoticesOf setup answers s m.notices × IsMadeOf setup answers s m.script))
made_in setup signatures answers seen (Ok m) is notices script = (seen, is, (notices, script))
made_in setup signatures answers seen (Err e) is notices script = tt

pub written_in : {E : Type 0} (setup : ImportSetup) (signatures : Signatures) (answers : SavedAnswers) (seen : SeenSetup) (r : Result Composed E) → IsSeenIn setup signatures answers seen
    → IfOk r (λ t. AreNoticesOf setup answers seen t.notices) → IfOk r (λ t. IsFitting setup answers seen (string_bytes t.text))
    → IfOk r (λ t. HoldsOfSeen setup signatures answers (λ s. AreNoticesOf setup answers s t.notices × IsFitting setup answers s (string_bytes t.text)))
written_in setup signatures answers seen (Ok t) is notices text = (seen, is, (notices, text))
written_in setup signatures answers seen (Err e) is notices text = tt

pub written_opens : {E : Type 0} (setup : ImportSetup) (answers : SavedAnswers) (seen : SeenSetup) (r : Result Composed E) → IfOk r (λ t. IsFitting setup answers seen (string_bytes t.text))
    → IfOk r (λ t. Opens (hold_verdicts answers) (string_bytes t.text))
written_opens setup answers seen (Ok t) text = opens_fitting setup answers seen (string_bytes t.text) text
written_opens setup answers seen (Err e) text = tt

pub written_short : {E : Type 0} (setup : ImportSetup) (answers : SavedAnswers) (seen : SeenSetup) (r : Result Composed E) → IfOk r (λ t. IsFitting setup answers seen (string_bytes t.text))
    → IfOk r (λ t. length (string_bytes t.text) ≤ max_bytes)
written_short setup answers seen (Ok t) text = is_short setup answers seen (string_bytes t.text) text
written_short setup answers seen (Err e) text = tt

-- a reason in the size of what was seen is one of the script
pub all_of_size : {T : Type 0} (setup : ImportSetup) (signatures : Signatures) (answers : SavedAnswers) (seen : SeenSetup) (r : Result T ImportErrors) → IsSeenIn setup signatures answers seen
    → IfErr r (OfEach (IsOfSizeOf setup seen)) → IfErr r (OfEach (HasReasonOfScript setup signatures answers))
all_of_size setup signatures answers seen (Ok t) is w = tt
all_of_size setup signatures answers seen (Err e) is w = of_each (IsOfSizeOf setup seen) (HasReasonOfScript setup signatures answers) e (λ p size. inr (seen, is, size)) w

-- which is told of the largest client
pub all_of_largest : {T : Type 0} (setup : ImportSetup) (signatures : Signatures) (answers : SavedAnswers) (seen : SeenSetup) (r : Result T ImportErrors) → IsSeenIn setup signatures answers seen
    → IfErr r (OfEach (IsOfSizeOf setup seen)) → IfErr r (OfEach (λ e. IsTooBig e → HoldsOfSeen setup signatures answers (λ s. NamesLargest setup s e)))
all_of_largest setup signatures answers seen (Ok t) is w = tt
all_of_largest setup signatures answers seen (Err e) is w =
    of_each (IsOfSizeOf setup seen) (λ p. IsTooBig p → HoldsOfSeen setup signatures answers (λ s. NamesLargest setup s p)) e (λ p size big. (seen, is, size.1.1)) w

-- which is too much, where it is made
pub all_too_much : {T : Type 0} (setup : ImportSetup) (signatures : Signatures) (answers : SavedAnswers) (seen : SeenSetup) (r : Result T ImportErrors) → IsSeenIn setup signatures answers seen
    → IfErr r (OfEach (IsOfSizeOf setup seen)) → IfErr r (OfEach (λ _. IsTooMuch (script_in setup answers seen)))
    → IfErr r (OfEach (λ e. IsTooBig e → HoldsOfSeen setup signatures answers (λ s. NamesLargest setup s e × IsTooMuch (script_in setup answers s))))
all_too_much setup signatures answers seen (Ok t) is size much = tt
all_too_much setup signatures answers seen (Err (all.Refused r)) is size much = λ k d small big. (seen, is, ((size k d small).1.1, much k d small))
all_too_much setup signatures answers seen (Err all.NoMemory) is size much = tt

-- what holds, holds beside each problem
pub of_all : (Holds : Type 0) (e : ImportErrors) → Holds → OfEach (λ _. Holds) e
of_all Holds (all.Refused r) holds = λ k d small. holds
of_all Holds all.NoMemory holds = tt

-- a text that the reader reads as the script of what was seen, behind the opening line and the heading
pub fits : (setup : ImportSetup) (answers : SavedAnswers) (seen : SeenSetup) (text : List ℕ) (script : CodeScript Global) → IsMadeOf setup answers seen script
    → script_of text ≡ Ok (script_view script) → BeginsAs answers seen text → length text ≤ max_bytes → IsFitting setup answers seen text
unfolding IsFitting
fits setup answers seen text script is read begins short = (read ∙ ap Ok is, begins, short)
