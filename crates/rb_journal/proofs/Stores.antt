-- Going over the parts of a journal.
use Rattle.std.proofs.Common.{◌≡◌, ℕ, Bool, inl, List, [], ◌∷◌, ◌++◌, length, map, All, None, Vec, Global, sym, ap, ◌∙◌, refl, append_assoc}
use Rattle.std.proofs.lemmas.List.{append-nil}
use Rattle.std.proofs.lemmas.List.Elements.{All-nil, All-cons, All-append, AllZip-push}
use Rattle.std.specs.List.{concat, AllZip}
use Rattle.rb_script_toml.specs.declared.fault.RunError.{RunError}
use Rattle.rb_script_toml.specs.declared.fault.RunError.TheVariants.{NoMemory}
use Rattle.rb_journal.specs.Parts.{part_end, IsWhole}
use Rattle.rb_journal.specs.Entries.{Restores, Unrestored}
use Rattle.rb_journal.specs.Stored.{Holds, IsMade, IsUnread}
use Rattle.rb_journal.proofs.Cuts.{next-among}

-- parts were gone over, and this stands behind them
pub record Through (digests : Bool) (turns : List ℕ) (texts : List (List ℕ)) (rest : List ℕ) : Type 0 where
  pub parts : List (List ℕ)
  pub split : turns ≡ concat parts ++ rest
  pub whole : All IsWhole parts
  pub restore : AllZip (Restores digests) parts texts

pub through-none : (digests : Bool) (turns : List ℕ) → Through digests turns [] turns
through-none digests turns = record { parts = []; split = refl; whole = All-nil IsWhole; restore = tt }

pub concat-push : (parts : List (List ℕ)) (part : List ℕ) → concat (parts ++ part ∷ []) ≡ concat parts ++ part
concat-push [] part = append-nil part
concat-push (p ∷ ps) part = ap (λ (xs : List ℕ). p ++ xs) (concat-push ps part) ∙ sym (append_assoc p (concat ps) part)

pub through-then : (digests : Bool) (turns : List ℕ) (texts : List (List ℕ)) (rest part more text : List ℕ) → Through digests turns texts rest
    → rest ≡ part ++ more → IsWhole part → Restores digests part text → Through digests turns (texts ++ text ∷ []) more
through-then digests turns texts rest part more text t split whole restores = record {
  parts = t.parts ++ part ∷ [];
  split = t.split ∙ ap (λ (xs : List ℕ). concat t.parts ++ xs) split ∙ sym (append_assoc (concat t.parts) part more)
      ∙ ap (λ (xs : List ℕ). xs ++ more) (sym (concat-push t.parts part));
  whole = All-append IsWhole t.parts (part ∷ []) t.whole (All-cons IsWhole part [] whole (All-nil IsWhole));
  restore = AllZip-push (Restores digests) t.parts texts part text t.restore restores;
}

pub texts-push : (documents : List (Vec ℕ Global)) (d : Vec ℕ Global) → map (λ x. x.items) (documents ++ d ∷ []) ≡ map (λ x. x.items) documents ++ d.items ∷ []
texts-push [] d = refl
texts-push (x ∷ xs) d = ap (λ (ys : List (List ℕ)). x.items ∷ ys) (texts-push xs d)

pub through-end : (digests : Bool) (turns : List ℕ) (texts : List (List ℕ)) (rest : List ℕ) → Through digests turns texts rest → part_end rest ≡ None → Holds digests turns texts (length rest)
through-end digests turns texts rest t none = record {
  parts = t.parts;
  rest = rest;
  has = record { split = t.split; whole = t.whole; cut = none };
  restore = t.restore;
  left = refl;
}

-- ---- why they aren't read

pub unread-memory : (digests : Bool) (turns : List ℕ) → IsUnread digests turns NoMemory
unread-memory digests turns = λ parts rest has made. inl tt

pub unread-part : (digests : Bool) (turns : List ℕ) (texts : List (List ℕ)) (rest part more : List ℕ) (error : RunError) → Through digests turns texts rest → rest ≡ part ++ more → IsWhole part
    → Unrestored digests part error → IsUnread digests turns error
unread-part digests turns texts rest part more error t split whole none = λ parts behind has made.
    let same : concat t.parts ++ (part ++ more) ≡ concat parts ++ behind =
    ap (λ (xs : List ℕ). concat t.parts ++ xs) (sym split) ∙ sym t.split ∙ has.split in
    let m : IsMade digests part = next-among (IsMade digests) t.parts parts part more behind t.whole whole has.whole has.cut same made in
    none m.0 m.1
