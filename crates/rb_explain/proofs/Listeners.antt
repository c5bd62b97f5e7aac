-- What a listener was given so far, turn after turn.
use Rattle.std.proofs.Common.{◌≡◌, ℕ, zero, suc, ◌+◌, ◌-◌, ◌<◌, ◌≤◌, Bool, true, false, cond, List, [], ◌∷◌, ◌++◌, Option, Some, None, IfSome, length, map, filter, take, get_or, refl, sym, ap, ◌∙◌, subst, inl, inr, append_assoc, append-nil, add-zero, arith}
use Rattle.std.specs.List.{All, slice_get, range_with_len}
use Rattle.std.proofs.lemmas.Bool.{cond-true, cond-false, false≢true}
use Rattle.std.proofs.lemmas.List.{length-map, get_or-map, map-append, map-id, take_more, take_all}
use Rattle.std.proofs.lemmas.List.Elements.{All-nil, All-push}
use Rattle.std.proofs.lemmas.List.FromFn.{filter_of_map_range_with_len_more}
use Rattle.rb_core_model.specs.Standing.{Standing}
use Rattle.rb_super_turn.specs.Judging.{Leads}
use Rattle.rb_super_turn.specs.Report.{TurnReport}
use Rattle.rb_super_turn.specs.Script.{Turn}
use Rattle.rb_super_turn.specs.Turns.{IsTurnReport, after_turn}
use Rattle.rb_super_turn.specs.Views.{turn_report_view}
use Rattle.rb_explain.specs.Listening.{Given, given, GivesAll, Gives, numbers_wanted, IsExplanationOf, AreExplanations, GoOn, IsWhole, IsStopped, IsGivenAll, IsGivenOne}
use Rattle.rb_explain.specs.Turn.{IsTurnExplained}
use Rattle.rb_explain.specs.Wanted.{has_turn}
use Rattle.rb_explain.specs.declared.turn.TurnExplanation.{TurnExplanation}
use Rattle.rb_explain.specs.declared.wanted.Wanted.{Wanted}
use Rattle.rb_explain.proofs.Jobs.{at_index}

-- ---- the numbers that are wanted

numbers_more : (w : Wanted) (n : ℕ) → numbers_wanted w (n + 1) ≡ numbers_wanted w n ++ cond (has_turn w (n + 1)) ((n + 1) ∷ []) []
numbers_more w n =
    sym (ap (filter (has_turn w)) (map-id (range_with_len 1 (n + 1))))
    ∙ filter_of_map_range_with_len_more (has_turn w) (λ (k : ℕ). k) 1 n (n + 1) (omega arith)
    ∙ ap (λ (ks : List ℕ). filter (has_turn w) ks ++ cond (has_turn w (n + 1)) ((n + 1) ∷ []) []) (map-id (range_with_len 1 n))

numbers_with : (w : Wanted) (n : ℕ) → has_turn w (n + 1) ≡ true → numbers_wanted w (n + 1) ≡ numbers_wanted w n ++ (n + 1) ∷ []
numbers_with w n is = numbers_more w n ∙ ap (λ (ks : List ℕ). numbers_wanted w n ++ ks) (cond-true (has_turn w (n + 1)) ((n + 1) ∷ []) [] is)

numbers_without : (w : Wanted) (n : ℕ) → has_turn w (n + 1) ≡ false → numbers_wanted w (n + 1) ≡ numbers_wanted w n
numbers_without w n is =
    numbers_more w n ∙ ap (λ (ks : List ℕ). numbers_wanted w n ++ ks) (cond-false (has_turn w (n + 1)) ((n + 1) ∷ []) [] is) ∙ append-nil (numbers_wanted w n)

-- where no later turn is wanted, these are all
numbers_to : (w : Wanted) (n d : ℕ) → ((k : ℕ) → n < k → has_turn w k ≡ false) → numbers_wanted w (n + d) ≡ numbers_wanted w n
numbers_to w n zero none = ap (numbers_wanted w) (add-zero n)
numbers_to w n (suc d) none =
    let next : n + suc d ≡ n + d + 1 = omega arith in
    ap (numbers_wanted w) next ∙ numbers_without w (n + d) (none (n + d + 1) (omega arith)) ∙ numbers_to w n d none

-- ---- the next turn

pub leads_more : (ts : List Turn) (s u v : Standing) (t : Turn) (r : TurnReport) → Leads s ts u → IsTurnReport u t r → v ≡ after_turn u t r → Leads s (ts ++ t ∷ []) v
leads_more [] s u v t r so_far is e = (r, subst (λ (x : Standing). IsTurnReport x t r) (sym so_far) is, ap (λ (x : Standing). after_turn x t r) so_far ∙ sym e)
leads_more (w ∷ ts) s u v t r so_far is e = (so_far.0, so_far.1, leads_more ts (after_turn s w so_far.0) u v t r so_far.2 is e)

module _ {X Y : Type 0} (view : X → Y) (xs : List X) (n : ℕ) (x : X) (lt : n < length xs) (at : x ≡ get_or xs n x) where
  within_viewed : n < length (map view xs)
  within_viewed = let long = length-map xs view in omega arith

  viewed_is : view x ≡ get_or (map view xs) n (view x)
  viewed_is = ap view at ∙ sym (get_or-map view xs n x (view x) lt)

  pub viewed_at : slice_get (map view xs) n ≡ Some (view x)
  viewed_at = at_index (map view xs) n (view x) within_viewed viewed_is

  pub viewed_more : take (n + 1) (map view xs) ≡ take n (map view xs) ++ view x ∷ []
  viewed_more = take_more (map view xs) n (view x) within_viewed ∙ ap (λ (y : Y). take n (map view xs) ++ y ∷ []) (sym viewed_is)

-- ---- what was given

module _ {A : Type 0} where
  gives_none : (o : Option (List (Given A))) → GivesAll o o []
  gives_none None = tt
  gives_none (Some gs) = ap (λ (xs : List (Given A)). Some xs) (sym (append-nil gs))

  gives_more : (a b c : Option (List (Given A))) (gs hs : List (Given A)) → GivesAll a b gs → GivesAll b c hs → GivesAll a c (gs ++ hs)
  gives_more None b c gs hs one two = tt
  gives_more (Some before) b c gs hs one two =
      let next : c ≡ Some ((before ++ gs) ++ hs) = subst (λ (o : Option (List (Given A))). IfSome o (λ (xs : List (Given A)). c ≡ Some (xs ++ hs))) one two in
      next ∙ ap (λ (xs : List (Given A)). Some xs) (append_assoc before gs hs)

-- the turns that were led through, and what was given of them
pub record IsSoFar {A : Type 0} (w : Wanted) (start : Standing) (ts : List Turn) (n : ℕ) (now : Standing) (old new : Option (List (Given A))) : Type 0 where
  pub leads : Leads start (take n ts) now
  pub more : List (Given A)
  pub gives : GivesAll old new more
  pub are : AreExplanations w start ts n more
  pub go_on : GoOn more

module _ {A : Type 0} (w : Wanted) (start : Standing) (ts : List Turn) (old : Option (List (Given A))) where
  pub so_far_first : IsSoFar w start ts 0 start old old
  so_far_first = record {
    leads = refl;
    more = [];
    gives = gives_none old;
    are = record { within = omega arith; numbers = refl; explained = All-nil (λ (g : Given A). IsExplanationOf w start ts g.explanation) };
    go_on = All-nil (λ (g : Given A). g.goes_on ≡ true);
  }

  -- where no turn is left that is wanted, it is all
  pub so_far_whole : (n : ℕ) (now : Standing) (new : Option (List (Given A))) → IsSoFar w start ts n now old new → ((k : ℕ) → n < k → has_turn w k ≡ false) → IsGivenAll w start ts old new
  so_far_whole n now new is none = go (is.are.within)
    where
      go : n ≤ length ts → IsGivenAll w start ts old new
      go le =
          let whole : length ts ≡ n + (length ts - n) = omega arith in
          let numbers = subst (λ (k : ℕ). map (λ (g : Given A). g.explanation.turn) is.more ≡ numbers_wanted w k) (sym whole) (is.are.numbers ∙ sym (numbers_to w n (length ts - n) none)) in
          record {
            more = is.more;
            gives = is.gives;
            are = inl (record { explanations = record { within = omega arith; numbers = numbers; explained = is.are.explained }; go_on = is.go_on });
          }

  -- at the end it is
  pub so_far_ended : (n : ℕ) (now : Standing) (new : Option (List (Given A))) → IsSoFar w start ts n now old new → n ≡ length ts → IsGivenAll w start ts old new
  so_far_ended n now new is end = record {
    more = is.more;
    gives = is.gives;
    are = inl (record { explanations = subst (λ (k : ℕ). AreExplanations w start ts k is.more) end is.are; go_on = is.go_on });
  }

  module _ (n : ℕ) (now : Standing) (mid : Option (List (Given A))) (is : IsSoFar w start ts n now old mid) (t : Turn) (x : TurnExplanation A) (at : slice_get ts n ≡ Some t)
      (number : x.turn ≡ n + 1) (within : n + 1 ≤ length ts) (right : IsTurnExplained now t w x) where
    explanation_of : IsExplanationOf w start ts x
    explanation_of = record { before = n; number = number; begun = now; earlier = is.leads; turn = t; is_turn = at; explained = right }

    -- with one more that is wanted
    with_one : (goes_on : Bool) → has_turn w x.turn ≡ true → AreExplanations w start ts (n + 1) (is.more ++ given x goes_on ∷ [])
    with_one goes_on wanted = record {
      within = within;
      numbers = map-append (λ (g : Given A). g.explanation.turn) is.more (given x goes_on ∷ [])
          ∙ ap (λ (ks : List ℕ). ks ++ x.turn ∷ []) is.are.numbers
          ∙ ap (λ (k : ℕ). numbers_wanted w n ++ k ∷ []) number
          ∙ sym (numbers_with w n (subst (λ (k : ℕ). has_turn w k ≡ true) number wanted));
      explained = All-push (λ (g : Given A). IsExplanationOf w start ts g.explanation) is.more (given x goes_on) is.are.explained explanation_of;
    }

    -- the next turn is led through
    pub so_far_more : (after : Standing) (new : Option (List (Given A))) → take (n + 1) ts ≡ take n ts ++ t ∷ [] → after ≡ after_turn now t (turn_report_view x.report)
        → IsGivenOne (has_turn w x.turn) x mid new true → IsSoFar w start ts (n + 1) after old new
    so_far_more after new taken stands one = go (has_turn w x.turn) refl one
      where
        leads : Leads start (take (n + 1) ts) after
        leads = subst (λ (us : List Turn). Leads start us after) (sym taken) (leads_more (take n ts) start now after t (turn_report_view x.report) is.leads right.report stands)

        go : (b : Bool) → has_turn w x.turn ≡ b → IsGivenOne b x mid new true → IsSoFar w start ts (n + 1) after old new
        go true wanted one = record {
          leads = leads;
          more = is.more ++ given x true ∷ [];
          gives = gives_more old mid new is.more (given x true ∷ []) is.gives one;
          are = with_one true wanted;
          go_on = All-push (λ (g : Given A). g.goes_on ≡ true) is.more (given x true) is.go_on refl;
        }
        go false wanted one = record {
          leads = leads;
          more = is.more;
          gives = subst (λ (o : Option (List (Given A))). GivesAll old o is.more) (sym one.0) is.gives;
          are = record {
            within = within;
            numbers = is.are.numbers ∙ sym (numbers_without w n (subst (λ (k : ℕ). has_turn w k ≡ false) number wanted));
            explained = is.are.explained;
          };
          go_on = is.go_on;
        }

    -- the listener asked for no more
    pub so_far_stopped : (new : Option (List (Given A))) → IsGivenOne (has_turn w x.turn) x mid new false → IsGivenAll w start ts old new
    so_far_stopped new one = go (has_turn w x.turn) refl one
      where
        go : (b : Bool) → has_turn w x.turn ≡ b → IsGivenOne b x mid new false → IsGivenAll w start ts old new
        go true wanted one = record {
          more = is.more ++ given x false ∷ [];
          gives = gives_more old mid new is.more (given x false ∷ []) is.gives one;
          are = inr (record {
            earlier = is.more;
            last = given x false;
            are = refl;
            explanations = subst (λ (k : ℕ). AreExplanations w start ts k (is.more ++ given x false ∷ [])) (sym number) (with_one false wanted);
            go_on = is.go_on;
            stop = refl;
          });
        }
        go false wanted one = absurd (false≢true one.1)
