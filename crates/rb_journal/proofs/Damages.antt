-- Going over the parts of a journal with digests.
use Rattle.std.proofs.Common.{◌≡◌, ℕ, ◌-◌, List, [], ◌∷◌, ◌++◌, length, All, None, true, false, sym, ap, ◌∙◌, refl, append_assoc, length-append, inl, inr, arith}
use Rattle.std.proofs.lemmas.List.Elements.{All-nil, All-cons, All-append}
use Rattle.std.specs.List.{concat}
use Rattle.rb_journal.specs.Parts.{part_end, digest_holds, lost_mark, IsWhole}
use Rattle.rb_journal.specs.Damage.{Holds, IsIntact, IsDamaged, IsDamagedAt}
use Rattle.rb_journal.proofs.Stores.{concat-push}

-- parts were gone over whose digests hold, and this stands behind them
pub record Checked (bytes rest : List ℕ) : Type 0 where
  pub parts : List (List ℕ)
  pub split : bytes ≡ concat parts ++ rest
  pub whole : All IsWhole parts
  pub hold : All Holds parts

pub checked-none : (bytes : List ℕ) → Checked bytes bytes
checked-none bytes = record { parts = []; split = refl; whole = All-nil IsWhole; hold = All-nil Holds }

pub checked-then : (bytes rest part more : List ℕ) → Checked bytes rest → rest ≡ part ++ more → IsWhole part → digest_holds part ≡ true → Checked bytes more
checked-then bytes rest part more c split whole holds = record {
  parts = c.parts ++ part ∷ [];
  split = c.split ∙ ap (λ (xs : List ℕ). concat c.parts ++ xs) split ∙ sym (append_assoc (concat c.parts) part more)
      ∙ ap (λ (xs : List ℕ). xs ++ more) (sym (concat-push c.parts part));
  whole = All-append IsWhole c.parts (part ∷ []) c.whole (All-cons IsWhole part [] whole (All-nil IsWhole));
  hold = All-append Holds c.parts (part ∷ []) c.hold (All-cons Holds part [] holds (All-nil Holds));
}

damaged-at : (bytes rest : List ℕ) → Checked bytes rest → IsDamaged rest → IsDamagedAt bytes (length bytes - length rest)
damaged-at bytes rest c damaged =
    let all = ap length c.split ∙ length-append (concat c.parts) rest in
    record {
      parts = c.parts;
      rest = rest;
      split = c.split;
      behind = omega arith;
      whole = c.whole;
      hold = c.hold;
      damaged = damaged;
    }

pub damaged-part : (bytes rest part more : List ℕ) → Checked bytes rest → rest ≡ part ++ more → IsWhole part → digest_holds part ≡ false
    → IsDamagedAt bytes (length bytes - length rest)
damaged-part bytes rest part more c split whole other = damaged-at bytes rest c (inl (part, more, split, whole, other))

pub damaged-end : (bytes rest : List ℕ) → Checked bytes rest → part_end rest ≡ None → lost_mark rest ≡ true → IsDamagedAt bytes (length bytes - length rest)
damaged-end bytes rest c none lost = damaged-at bytes rest c (inr (none, lost))

pub intact : (bytes rest : List ℕ) → Checked bytes rest → part_end rest ≡ None → lost_mark rest ≡ false → IsIntact bytes
intact bytes rest c none ends = record {
  parts = c.parts;
  rest = rest;
  has = record { split = c.split; whole = c.whole; cut = none };
  hold = c.hold;
  ends = ends;
}
