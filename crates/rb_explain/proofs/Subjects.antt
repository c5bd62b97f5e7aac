-- What events tell of, at the end of their list.
use Rattle.std.proofs.Common.{◌≡◌, ℕ, ◌≤◌, Bool, true, List, Some, length, map, take, sym, ap, ◌∙◌, subst}
use Rattle.std.proofs.lemmas.List.{take_all}
use Rattle.rb_core_model.specs.Event.{Event}
use Rattle.rb_explain.specs.Subjects.{AreSubjects, subject_of}
use Rattle.rb_explain.specs.declared.refused.Subject.{Subject}

pub subjects_all : {X : Type 0} (view : X → Event) (xs : List X) (i : ℕ) (b : Bool) (subjects : List Subject) → length xs ≤ i → b ≡ true → map (λ (t : Subject). Some t) subjects ≡ map subject_of (map view (take i xs))
    → AreSubjects b (map view xs) subjects
subjects_all {X} view xs i b subjects past wanted inv =
    subst (λ (c : Bool). AreSubjects c (map view xs) subjects) (sym wanted) (inv ∙ ap (λ (ys : List X). map subject_of (map view ys)) (take_all i xs past))
