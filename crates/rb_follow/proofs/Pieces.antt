-- Pieces of an input, one after the other.
use Rattle.std.proofs.Common.{◌≡◌, ℕ, ◌<◌, List, [], ◌∷◌, ◌++◌, length, length-drop, ◌-◌, take, drop, Bool, true, false, cond, codes, Option, Some, None, IfSome, refl, sym, ap, subst, ◌∙◌, append_assoc, arith}
use Rattle.std.proofs.lemmas.List.{append-nil}
use Rattle.std.proofs.Math.Seq.{take-length}
use Rattle.std.specs.Str.{bytes_eq}
use Rattle.std.specs.Io.KnownBytes.{Consumes, Keeps, IsAtEnd}
use Rattle.rb_follow.specs.declared.told.Form.{Form}
use Rattle.rb_follow.specs.Documents.{Gathered, Document, document, cut, nothing_read, all_read, documents_from, left_from, IsGathered, finished, cut_in, last_of, documents}
use Rattle.rb_follow.specs.Followers.{Following}
use Rattle.rb_follow.specs.Journals.{Outs}
use Rattle.rb_follow.specs.Headline.{Told, ToldPiece, BeginsTelling}
use Rattle.rb_follow.proofs.Telling.{told-none, told-then, begins-told, begins-later, begins-after}

pub begins-of : (form : Form) (f : Following) (ds es : List Document) (old new : Outs) → es ≡ ds → BeginsTelling form f ds old new → BeginsTelling form f es old new
begins-of form f ds es old new e b = subst (λ (xs : List Document). BeginsTelling form f xs old new) (sym e) b

-- ---- a piece

-- what is behind the first ones, as a slice has it
pub slice_to_end : (n : ℕ) (xs : List ℕ) → take (length xs - n) (drop n xs) ≡ drop n xs
slice_to_end n xs = ap (λ (m : ℕ). take m (drop n xs)) (sym (length-drop n xs)) ∙ take-length (drop n xs)

pub piece-none : (form : Form) (f : Following) (r : Gathered) (piece : List ℕ) (old : Outs) → ToldPiece form f r piece r piece old old f
piece-none form f r piece old = record { documents = []; ended = λ more. refl; left = λ more. refl; told = told-none form f old }

pub piece-end : (form : Form) (f : Following) (r0 : Gathered) (piece : List ℕ) (r s : Gathered) (rest : List ℕ) (old new : Outs) (g : Following)
    → ToldPiece form f r0 piece r rest old new g → IsGathered r rest None s → ToldPiece form f r0 piece s [] old new g
piece-end form f r0 piece r s rest old new g p q = record {
  documents = p.documents;
  ended = λ more. p.ended more ∙ ap (λ (xs : List Document). p.documents ++ xs) (q more).0;
  left = λ more. p.left more ∙ (q more).1;
  told = p.told;
}

pub piece-then : (form : Form) (f : Following) (r0 : Gathered) (piece : List ℕ) (r s : Gathered) (rest : List ℕ) (count : ℕ) (old mid new : Outs) (g k : Following)
    → ToldPiece form f r0 piece r rest old mid g → IsGathered r rest (Some count) s → Told form g (document (all_read s) ∷ []) mid new k
    → ToldPiece form f r0 piece nothing_read (drop count rest) old new k
piece-then form f r0 piece r s rest count old mid new g k p q t = record {
  documents = p.documents ++ (document (all_read s) ∷ []);
  ended = λ more. p.ended more ∙ ap (λ (xs : List Document). p.documents ++ xs) (q.2 more).0 ∙ sym (append_assoc p.documents (document (all_read s) ∷ []) (documents_from nothing_read (drop count rest ++ more)));
  left = λ more. p.left more ∙ (q.2 more).1;
  told = told-then form f p.documents (document (all_read s) ∷ []) old mid new g k p.told t;
}

pub piece-begins : (form : Form) (f : Following) (r0 : Gathered) (piece : List ℕ) (r : Gathered) (rest : List ℕ) (old new : Outs) (g : Following)
    → ToldPiece form f r0 piece r rest old new g → (more : List ℕ) → BeginsTelling form f (documents_from r0 (piece ++ more)) old new
piece-begins form f r0 piece r rest old new g p more =
    begins-of form f (p.documents ++ documents_from r (rest ++ more)) (documents_from r0 (piece ++ more)) old new (p.ended more)
    (begins-told form f p.documents (documents_from r (rest ++ more)) old new g p.told)

pub piece-begins-then : (form : Form) (f : Following) (r0 : Gathered) (piece : List ℕ) (r s : Gathered) (rest : List ℕ) (count : ℕ) (old mid new : Outs) (g : Following)
    → ToldPiece form f r0 piece r rest old mid g → IsGathered r rest (Some count) s → BeginsTelling form g (document (all_read s) ∷ []) mid new
    → (more : List ℕ) → BeginsTelling form f (documents_from r0 (piece ++ more)) old new
piece-begins-then form f r0 piece r s rest count old mid new g p q b more =
    let later = documents_from nothing_read (drop count rest ++ more) in
    begins-of form f (p.documents ++ (document (all_read s) ∷ later)) (documents_from r0 (piece ++ more)) old new
    (p.ended more ∙ ap (λ (xs : List Document). p.documents ++ xs) (q.2 more).0)
    (begins-after form f p.documents (document (all_read s) ∷ later) old mid new g p.told (begins-later form g (document (all_read s) ∷ []) later mid new b))

-- ---- an input that is read piece by piece

-- what ended of it was told, and what is read of the next document goes on with what is left
pub record ToldFrom (form : Form) (f : Following) (bytes : List ℕ) (r : Gathered) (rest : List ℕ) (old new : Outs) (g : Following) : Type 0 where
  pub done : List Document
  pub ended : documents_from nothing_read bytes ≡ done ++ documents_from r rest
  pub left : left_from nothing_read bytes ≡ left_from r rest
  pub told : Told form f done old new g

-- the same where the bytes of the input are known
abbrev pub HasTold : Form → Following → Option (List ℕ) → Gathered → Option (List ℕ) → Outs → Outs → Following → Type 0
HasTold form f None r left old new g = Unit {0}
HasTold form f (Some bytes) r None old new g = ⊥
HasTold form f (Some bytes) r (Some rest) old new g = ToldFrom form f bytes r rest old new g

pub has-none : (form : Form) (f : Following) (known : Option (List ℕ)) (old : Outs) → HasTold form f known nothing_read known old old f
has-none form f None old = tt
has-none form f (Some bytes) old = record { done = []; ended = refl; left = refl; told = told-none form f old }

pub has-kept : (form : Form) (f : Following) (known a b : Option (List ℕ)) (r : Gathered) (old new : Outs) (g : Following)
    → Keeps a b → HasTold form f known r a old new g → HasTold form f known r b old new g
has-kept form f None a b r old new g k h = tt
has-kept form f (Some bytes) None b r old new g k h = absurd h
has-kept form f (Some bytes) (Some rest) None r old new g k h = absurd k
has-kept form f (Some bytes) (Some rest) (Some x) r old new g k h = subst (λ (xs : List ℕ). ToldFrom form f bytes r xs old new g) (sym k) h

pub has-then : (form : Form) (f : Following) (known a b : Option (List ℕ)) (r s : Gathered) (p : List ℕ) (old mid new : Outs) (g k : Following)
    → Consumes a b p → HasTold form f known r a old mid g → ToldPiece form g r p s [] mid new k → HasTold form f known s b old new k
has-then form f None a b r s p old mid new g k e h t = tt
has-then form f (Some bytes) None b r s p old mid new g k e h t = absurd h
has-then form f (Some bytes) (Some rest) None r s p old mid new g k e h t = absurd e
has-then form f (Some bytes) (Some rest) (Some x) r s p old mid new g k e h t = record {
  done = h.done ++ t.documents;
  ended = h.ended ∙ ap (λ (xs : List ℕ). h.done ++ documents_from r xs) e ∙ ap (λ (xs : List Document). h.done ++ xs) (t.ended x) ∙ sym (append_assoc h.done t.documents (documents_from s x));
  left = h.left ∙ ap (λ (xs : List ℕ). left_from r xs) e ∙ t.left x;
  told = told-then form f h.done t.documents old mid new g k h.told t.told;
}

-- the documents of the input, after those that were told
after : (form : Form) (f : Following) (bytes : List ℕ) (r : Gathered) (rest : List ℕ) (old new : Outs) (g : Following) (h : ToldFrom form f bytes r rest old new g)
    → documents bytes ≡ h.done ++ (documents_from r rest ++ last_of (left_from nothing_read bytes))
after form f bytes r rest old new g h =
    ap (λ (xs : List Document). xs ++ last_of (left_from nothing_read bytes)) h.ended ∙ append_assoc h.done (documents_from r rest) (last_of (left_from nothing_read bytes))

pub has-begins : (form : Form) (f : Following) (known a : Option (List ℕ)) (r : Gathered) (old new : Outs) (g : Following)
    → HasTold form f known r a old new g → IfSome known (λ (bytes : List ℕ). BeginsTelling form f (documents bytes) old new)
has-begins form f None a r old new g h = tt
has-begins form f (Some bytes) None r old new g h = absurd h
has-begins form f (Some bytes) (Some rest) r old new g h =
    let later = documents_from r rest ++ last_of (left_from nothing_read bytes) in
    begins-of form f (h.done ++ later) (documents bytes) old new (after form f bytes r rest old new g h) (begins-told form f h.done later old new g h.told)

pub has-begins-then : (form : Form) (f : Following) (known a b : Option (List ℕ)) (r : Gathered) (p : List ℕ) (old mid new : Outs) (g : Following)
    → Consumes a b p → HasTold form f known r a old mid g → ((more : List ℕ) → BeginsTelling form g (documents_from r (p ++ more)) mid new)
    → IfSome known (λ (bytes : List ℕ). BeginsTelling form f (documents bytes) old new)
has-begins-then form f None a b r p old mid new g e h t = tt
has-begins-then form f (Some bytes) None b r p old mid new g e h t = absurd h
has-begins-then form f (Some bytes) (Some rest) None r p old mid new g e h t = absurd e
has-begins-then form f (Some bytes) (Some rest) (Some x) r p old mid new g e h t =
    let later = last_of (left_from nothing_read bytes) in
    begins-of form f (h.done ++ (documents_from r rest ++ later)) (documents bytes) old new (after form f bytes r rest old mid g h)
    (begins-after form f h.done (documents_from r rest ++ later) old mid new g h.told
    (begins-later form g (documents_from r rest) later mid new (begins-of form g (documents_from r (p ++ x)) (documents_from r rest) mid new (ap (λ (xs : List ℕ). documents_from r xs) e) (t x))))

-- ---- its end

-- nothing is left of the input
at_end : (form : Form) (f : Following) (bytes : List ℕ) (r : Gathered) (rest : List ℕ) (old new : Outs) (g : Following) (h : ToldFrom form f bytes r rest old new g)
    → rest ≡ [] → documents bytes ≡ h.done ++ last_of r
at_end form f bytes r rest old new g h e =
    ap (λ (xs : List Document). xs ++ last_of (left_from nothing_read bytes)) (h.ended ∙ ap (λ (xs : List ℕ). h.done ++ documents_from r xs) e ∙ append-nil h.done)
    ∙ ap (λ (x : Gathered). h.done ++ last_of x) (h.left ∙ ap (λ (xs : List ℕ). left_from r xs) e)

pub has-end : (form : Form) (f : Following) (known a b : Option (List ℕ)) (r : Gathered) (old mid new : Outs) (g k : Following)
    → Consumes a b [] → IsAtEnd b → HasTold form f known r a old mid g → Told form g (last_of r) mid new k
    → IfSome known (λ (bytes : List ℕ). Told form f (documents bytes) old new k)
has-end form f None a b r old mid new g k e z h t = tt
has-end form f (Some bytes) None b r old mid new g k e z h t = absurd h
has-end form f (Some bytes) (Some rest) None r old mid new g k e z h t = absurd e
has-end form f (Some bytes) (Some rest) (Some x) r old mid new g k e z h t =
    subst (λ (ds : List Document). Told form f ds old new k) (sym (at_end form f bytes r rest old mid g h (e ∙ z))) (told-then form f h.done (last_of r) old mid new g k h.told t)

pub has-end-begins : (form : Form) (f : Following) (known a b : Option (List ℕ)) (r : Gathered) (old mid new : Outs) (g : Following)
    → Consumes a b [] → IsAtEnd b → HasTold form f known r a old mid g → BeginsTelling form g (last_of r) mid new
    → IfSome known (λ (bytes : List ℕ). BeginsTelling form f (documents bytes) old new)
has-end-begins form f None a b r old mid new g e z h t = tt
has-end-begins form f (Some bytes) None b r old mid new g e z h t = absurd h
has-end-begins form f (Some bytes) (Some rest) None r old mid new g e z h t = absurd e
has-end-begins form f (Some bytes) (Some rest) (Some x) r old mid new g e z h t =
    begins-of form f (h.done ++ last_of r) (documents bytes) old new (at_end form f bytes r rest old mid g h (e ∙ z)) (begins-after form f h.done (last_of r) old mid new g h.told t)

-- what is after the last line `---`
abbrev pub finish_by : Gathered → Bool → Gathered
finish_by r b = cond b (record { whole = r.whole; line = [] }) r

pub last-whole : (r s : Gathered) → bytes_eq r.line (codes "---") ≡ true → s ≡ finished r → document (all_read s) ∷ [] ≡ last_of r
last-whole r s h e =
    ap (λ (x : Gathered). document (all_read x) ∷ []) (e ∙ ap (finish_by r) h)
    ∙ ap (λ (xs : List ℕ). document xs ∷ []) (append-nil r.whole)
    ∙ sym (ap (λ (b : Bool). cond b (document r.whole ∷ []) (cut_in (all_read r))) h)

no_last : (xs : List ℕ) → length xs ≡ 0 → cut_in xs ≡ []
no_last [] h = refl
no_last (x ∷ xs) h = absurd (omega arith)

one_cut : (xs : List ℕ) → 0 < length xs → cut_in xs ≡ cut ∷ []
one_cut [] h = absurd (omega arith)
one_cut (x ∷ xs) h = refl

rest_of : (r : Gathered) → bytes_eq r.line (codes "---") ≡ false → last_of r ≡ cut_in (all_read r)
rest_of r h = ap (λ (b : Bool). cond b (document r.whole ∷ []) (cut_in (all_read r))) h

same_of : (r s : Gathered) → bytes_eq r.line (codes "---") ≡ false → s ≡ finished r → s ≡ r
same_of r s h e = e ∙ ap (finish_by r) h

pub last-none : (r s : Gathered) → bytes_eq r.line (codes "---") ≡ false → s ≡ finished r → length (all_read s) ≡ 0 → last_of r ≡ []
last-none r s h e n = rest_of r h ∙ no_last (all_read r) (sym (ap (λ (x : Gathered). length (all_read x)) (same_of r s h e)) ∙ n)

pub last-cut : (r s : Gathered) → bytes_eq r.line (codes "---") ≡ false → s ≡ finished r → 0 < length (all_read s) → last_of r ≡ cut ∷ []
last-cut r s h e n = rest_of r h ∙ one_cut (all_read r) (subst (λ (x : Gathered). 0 < length (all_read x)) (same_of r s h e) n)
