-- Why a setup or a document makes no part of a journal.
use Rattle.std.proofs.Common.{◌≡◌, ℕ, Bool, false, List, ◌++◌, [], ◌∙◌, length, codes, Option, Some, None, Result, Ok, Err, IfErr, append_assoc, sym, ap, subst, inl, inr}
use Rattle.std.proofs.lemmas.Option.{none-some, same_Some}
use Rattle.toml.specs.Data.{Members}
use Rattle.toml.specs.Text.{IsDocumentText}
use Rattle.rb_script_toml.specs.declared.fault.FaultName.{FaultName}
use Rattle.rb_script_toml.specs.declared.fault.RunError.{RunError}
use Rattle.rb_script_toml.specs.declared.fault.RunError.TheVariants.{NoMemory, Device, Fault as FaultOf}
use Rattle.rb_script_toml.specs.Faults.{Fault, IsFault}
use Rattle.rb_script_toml.specs.Documents.{document, whole}
use Rattle.rb_journal.specs.Parts.{heading, closing, part_end, IsWhole}
use Rattle.rb_journal.specs.Entries.{turn_key, without}
use Rattle.rb_journal.specs.Refusals.{IsRefusal, HasNoText, IsNoPart, MakesNoPart, MakesNoOpening}

pub refusal-of : (why : FaultName → Type 0) (e : RunError) (name : FaultName) → IsFault e name (codes "-") → why name → IsRefusal why e
refusal-of why NoMemory name h w = tt
refusal-of why Device name h w = h
refusal-of why (FaultOf f) name h w = (subst why (sym (ap (λ (x : Fault). x.name) h)) w, ap (λ (x : Fault). x.path) h)

refusal-weaker : (first later : FaultName → Type 0) → ((name : FaultName) → first name → later name) → (e : RunError) → IsRefusal first e → IsRefusal later e
refusal-weaker first later weaker NoMemory h = tt
refusal-weaker first later weaker Device h = h
refusal-weaker first later weaker (FaultOf f) h = (weaker f.name h.0, h.1)

-- a table without a text makes no part
pub no_text : (digests : Bool) (before : List ℕ) (ms : Members) (e : RunError) → IsRefusal (HasNoText ms) e → IsRefusal (MakesNoPart digests before ms) e
no_text digests before ms e h = refusal-weaker (HasNoText ms) (MakesNoPart digests before ms) (λ name w. inl w) e h

pub no_part : (digests : Bool) (before text part : List ℕ) (ms : Members) (e : RunError) (name : FaultName) → IsDocumentText false ms text
    → part ≡ before ++ (text ++ closing digests (before ++ text)) → IsNoPart part name → IsFault e name (codes "-") → IsRefusal (MakesNoPart digests before ms) e
no_part digests before text part ms e name written is none h =
    refusal-of (MakesNoPart digests before ms) e name h (inr (text, written, subst (λ (xs : List ℕ). IsNoPart xs name) is none))

-- a line, a text and what ends them, as they are put together, are a part
pub joined : (digests : Bool) (before text none one two bytes end part : List ℕ) → none ≡ [] → one ≡ none ++ before → two ≡ one ++ text → bytes ≡ two → end ≡ closing digests bytes → part ≡ two ++ end
    → part ≡ before ++ (text ++ closing digests (before ++ text))
joined digests before text none one two bytes end part empty first second same last whole =
    let start : one ≡ before = first ∙ ap (λ l. l ++ before) empty in
    let both : two ≡ before ++ text = second ∙ ap (λ l. l ++ text) start in
    whole ∙ ap (λ l. l ++ end) both ∙ ap (λ l. (before ++ text) ++ l) (last ∙ ap (closing digests) (same ∙ both)) ∙ append_assoc before text (closing digests (before ++ text))

-- a part whose first end is elsewhere isn't whole
pub other_end : (part bytes : List ℕ) (r : Option ℕ) (end len : ℕ) → bytes ≡ part → r ≡ part_end bytes → r ≡ Some end → len ≡ length part → (end ≡ len → ⊥) → IsWhole part → ⊥
other_end part bytes r end len same is found long other whole = other (same_Some end (length part) (sym found ∙ is ∙ ap part_end same ∙ whole) ∙ sym long)

-- nor is one without an end
pub no_end : (part bytes : List ℕ) (r : Option ℕ) → bytes ≡ part → r ≡ part_end bytes → r ≡ None → IsWhole part → ⊥
no_end part bytes r same is none whole = none-some (length part) (sym none ∙ is ∙ ap part_end same ∙ whole)

pub no_opening : {T : Type 0} (r : Result T RunError) (digests : Bool) (setup : List ℕ) (ms ns : Members) → document setup ≡ Ok (whole ms) → ns ≡ without turn_key ms
    → IfErr r (λ e. IsRefusal (MakesNoPart digests (heading digests) ns) e) → IfErr r (λ e. MakesNoOpening digests setup e)
no_opening (Ok part) digests setup ms ns read same h = tt
no_opening (Err e) digests setup ms ns read same h =
    inr (ms, read, subst (λ (xs : Members). IsRefusal (MakesNoPart digests (heading digests) xs) e) same h)
