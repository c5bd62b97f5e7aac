-- What a step waits for.
use Rattle.std.proofs.Common.{◌≡◌, ℕ, ◌+◌, ◌<◌, ◌≤◌, ◌^◌, List, [], ◌∷◌, ◌++◌, append_assoc, Bool, true, false, Result, Ok, Err, inl, inr, refl, sym, ap, subst, ◌∙◌, arith}
use Rattle.std.specs.Prelude.{OnOk, IfOk, IsTrue, ◌↔◌, if◌then◌else◌}
use Rattle.std.specs.List.{list_any}
use Rattle.std.proofs.lemmas.Bool.{true≢false}
use Rattle.std.proofs.lemmas.Bool.Decides.{nat_tests}
use Rattle.std.proofs.lemmas.Grind.{common_steps}
use Rattle.rb_book.specs.Header.{Record}
use Rattle.rb_import_answers.specs.declared.commit.SignedHeader.{SignedHeader}
use Rattle.rb_want_requests.specs.Answered.{is_commit_of}
use Rattle.rb_want_requests.specs.declared.request.Query.{Query}
use Rattle.rb_want_requests.specs.declared.request.Query.TheVariants as queries
use Rattle.rb_want.specs.Clients.{IsHeaderAt, next_page}
use Rattle.rb_want.specs.Judgements.{LacksHeader, LacksSet, LacksTrust, MayBeSigned, MayBeTrusted, MayHaveSet}
use Rattle.rb_want.specs.Steps.{IsRecordAt}
use Rattle.rb_want.specs.Waiting.{HasSet, WaitsForHeader, WaitsForNext, WaitsForSet, is_height, page_asked}
use Rattle.rb_want.specs.declared.judged.Steps.{Steps}

pub on_ok : {T E : Type 0} (r : Result T E) (P Q : Type 0) → (P → Q) → OnOk r P → OnOk r Q
on_ok (Ok x) P Q f p = f p
on_ok (Err e) P Q f p = tt

pub if_ok : {T E : Type 0} (r : Result T E) (P Q : T → Type 0) → ((x : T) → P x → Q x) → IfOk r P → IfOk r Q
if_ok (Ok x) P Q f p = f x p
if_ok (Err e) P Q f p = tt

is_height_at : (n : ℕ) → 1 ≤ n → n < 2 ^ 63 → is_height n ≡ true
is_height_at n low high = grind (arith, nat_tests, common_steps)

is_no_height : (n : ℕ) → (((1 ≤ n) × (n < 2 ^ 63)) → ⊥) → is_height n ≡ false
is_no_height n denied = go (is_height n) refl
  where
    go : (b : Bool) → is_height n ≡ b → is_height n ≡ false
    go false e = e
    go true e = absurd (denied (grind (arith, nat_tests, common_steps, e), grind (arith, nat_tests, common_steps, e)))

-- of a height the next page of its validators is asked for
pub page_of : (s : Steps) (n : ℕ) → 1 ≤ n → n < 2 ^ 63 → page_asked s n ≡ next_page n s.chain.now.folder.now.contents.items
unfolding page_asked
page_of s n low high = ap (λ b. if b then next_page n s.chain.now.folder.now.contents.items else []) (is_height_at n low high)

pub no_page : (s : Steps) (n : ℕ) → (((1 ≤ n) × (n < 2 ^ 63)) → ⊥) → page_asked s n ≡ []
unfolding page_asked
no_page s n denied = ap (λ b. if b then next_page n s.chain.now.folder.now.contents.items else []) (is_no_height n denied)

pub ruleset paging = (page_of, no_page)

-- the answer is no where the set isn't there
pub unseen : (b : Bool) (P : Type 0) → (IsTrue b ↔ P) → b ≡ false → P → ⊥
unseen b P iff denied holds = true≢false (sym (iff.1 holds) ∙ denied)

-- the page of a set that isn't there is asked for
pub set_asked : (s : Steps) (hash : List ℕ) (height : ℕ) (old new : List Query) → (HasSet s hash → ⊥) → new ≡ old ++ page_asked s height
    → (asked : List Query) × WaitsForSet s hash height asked × (new ≡ old ++ asked)
set_asked s hash height old new unseen_set is = (page_asked s height, inr (unseen_set, refl), is)

-- the set that a record names
pub next_asked : (s : Steps) (trusted height : ℕ) (r : Record) (hash : List ℕ) (old new : List Query) → IsRecordAt s trusted r → hash ≡ r.next → height ≡ trusted + 1
    → ((asked : List Query) × WaitsForSet s hash height asked × (new ≡ old ++ asked)) → (asked : List Query) × WaitsForNext s trusted asked × (new ≡ old ++ asked)
next_asked s trusted height r hash old new stored named after (asked, waits, is) =
    let at : WaitsForSet s r.next height asked = subst (λ h. WaitsForSet s h height asked) named waits in
    (asked, inl (r, stored, subst (λ n. WaitsForSet s r.next n asked) after at), is)

-- the set of a header that is there
pub header_asked : (s : Steps) (height n : ℕ) (h : SignedHeader) (old new : List Query) → IsHeaderAt s.chain.now.folder.now.contents.items height h → n ≡ height
    → ((asked : List Query) × WaitsForSet s h.set n asked × (new ≡ old ++ asked)) → (asked : List Query) × WaitsForHeader s height asked × (new ≡ old ++ asked)
header_asked s height n h old new there same (asked, waits, is) =
    (asked, inl (h, there, subst (λ m. WaitsForSet s h.set m asked) same waits), is)

-- a header that isn't there, and its set
pub header_new : (s : Steps) (height n : ℕ) (old pushed new : List Query) → list_any (is_commit_of height) s.chain.now.folder.now.contents.items ≡ false
    → n ≡ height → pushed ≡ old ++ queries.Commit height ∷ [] → new ≡ pushed ++ page_asked s n
    → (asked : List Query) × WaitsForHeader s height asked × (new ≡ old ++ asked)
header_new s height n old pushed new none same push is = (
  queries.Commit height ∷ page_asked s height,
  inr (none, refl),
  is ∙ ap (λ m. pushed ++ page_asked s m) same ∙ ap (λ l. l ++ page_asked s height) push
      ∙ append_assoc old (queries.Commit height ∷ []) (page_asked s height),
)

-- a record whose set isn't given
pub untrusted : (s : Steps) (trusted height : ℕ) (r : Record) (hash : List ℕ) → IsRecordAt s trusted r → hash ≡ r.next → height ≡ trusted + 1
    → LacksSet s hash height → LacksTrust s trusted
untrusted s trusted height r hash stored named after lacks =
    inr (r, stored, subst (λ n. LacksSet s r.next n) after (subst (λ h. LacksSet s h height) named lacks))

-- a record whose set may be had
pub trusted_yet : (s : Steps) (trusted height : ℕ) (r : Record) (hash : List ℕ) → IsRecordAt s trusted r → hash ≡ r.next → height ≡ trusted + 1
    → MayHaveSet s hash height → MayBeTrusted s trusted
trusted_yet s trusted height r hash stored named after may =
    (r, stored, subst (λ n. MayHaveSet s r.next n) after (subst (λ h. MayHaveSet s h height) named may))

-- a header whose set may be had
pub signed_yet : (s : Steps) (height n : ℕ) (h : SignedHeader) → IsHeaderAt s.chain.now.folder.now.contents.items height h → n ≡ height
    → MayHaveSet s h.set n → MayBeSigned s height
signed_yet s height n h there same may = inl (h, there, subst (λ m. MayHaveSet s h.set m) same may)

-- a header whose set isn't given
pub headless : (s : Steps) (height n : ℕ) (h : SignedHeader) → IsHeaderAt s.chain.now.folder.now.contents.items height h → n ≡ height
    → LacksSet s h.set n → LacksHeader s height
headless s height n h there same lacks = inl (h, there, subst (λ m. LacksSet s h.set m) same lacks)
