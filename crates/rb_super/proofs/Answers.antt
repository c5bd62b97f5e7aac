-- What is right for a client over a light store is right over what is left of it.
use Rattle.std.proofs.Common.{◌≡◌, ℕ, Bool, List, map, Option, Some, None, MatchOption, refl, sym, ap, ◌∙◌, subst}
use Rattle.std.specs.List.{All}
use Rattle.std.specs.Option.{IfSome, option_map}
use Rattle.rb_base.specs.declared.votes.CarriedVotes.{CarriedVotes}
use Rattle.rb_base.specs.declared.votes.CarriedVotes.TheVariants.{Commit, Cast, Needed}
use Rattle.rb_batch.specs.Cut.{IsFirstTooBig}
use Rattle.rb_book.specs.Book.{Book}
use Rattle.rb_book.specs.Invariant.{Rises}
use Rattle.rb_script_types.specs.declared.goal.Goal.{Goal}
use Rattle.rb_step.specs.LightClient.{Update, Client, IsAcceptable}
use Rattle.rb_step.specs.Sent.{sent_of, sent_by, sent_at}
use Rattle.rb_step.specs.View.{IsView, client_of}
use Rattle.rb_plan_types.specs.Labelling.{label_of}
use Rattle.rb_plan_types.specs.Least.{IsUnreachable}
use Rattle.rb_plan_client.specs.Draft.{Sending, nothing, too_big, batched, Plan, Planned, IsCut, IsSending, IsPlan, IsPlanned, IsIdle}
use Rattle.rb_plan_client.specs.Next.{IsNext}
use Rattle.rb_plan_client.specs.Reach.{IsReachable, IsReach}
use Rattle.rb_plan_client.specs.Task.{Task, Message, view_of, is_apart, gas_of}
use Rattle.rb_super.specs.Alike.{AreAlike}
use Rattle.rb_super.specs.Left.{IsBookLeft, AreStoredLeft, HaveFloors}
use Rattle.rb_super.proofs.Books.{same_step}
use Rattle.rb_super.proofs.Planning.{IsAbove, exact, least, unreachable, proof_height, updates_above}
use Rattle.rb_super.proofs.Runs.{acceptable, leaves}
use Rattle.rb_super.proofs.Tasks.{rest_of, are_alike, goal_same, apart_same, messages_same, next_same, fees_same, gases_same}

-- ---- the reach of clients that are alike is the same

reachable : (m : ℕ) (c d : Client) → AreAlike m c d → (h : ℕ) → IsReachable c h → IsReachable d h
reachable m c d alike h (us, a, l) = (us, acceptable m c d alike.there us a, (leaves m c d alike.there us h a l).1)

pub reach : (m : ℕ) (c d : Client) → AreAlike m c d → (r : Option ℕ) → IsReach c r → IsReach d r
reach m c d alike r is = record {
  reached = go r is.reached;
  greatest = λ h can. is.greatest h (reachable m d c (record { there = alike.back; back = alike.there; ties = sym alike.ties }) h can);
}
  where
    go : (o : Option ℕ) → IfSome o (IsReachable c) → IfSome o (IsReachable d)
    go None can = tt
    go (Some h) can = reachable m c d alike h can

module _ (m : ℕ) (t : Task) (ys : List ℕ) (c : Book) (left : IsBookLeft m t.book c) (stored : AreStoredLeft m t.config.options.period t.window t.book t.stored ys)
    (floors : HaveFloors m t.paths) (rises : Rises t.book.records) (view : IsView (view_of (record t { stored = ys; book = c }))) where
  abbrev rest : Task
  rest = rest_of m t ys c left stored floors rises view

  both : AreAlike m (client_of (view_of t)) (client_of (view_of (record t { stored = ys; book = c })))
  both = are_alike m t ys c left stored floors rises view

  high : (us : List Update) → IsAcceptable (client_of (view_of t)) us → All (IsAbove m) us
  high us a = updates_above m (client_of (view_of t)) (client_of (view_of (record t { stored = ys; book = c }))) both.there us a

  reach_there : (r : Option ℕ) → IsReach (client_of (view_of t)) r → IsReach (client_of (view_of (record t { stored = ys; book = c }))) r
  reach_there r is = reach m (client_of (view_of t)) (client_of (view_of (record t { stored = ys; book = c }))) both r is

  pub idle_left : IsIdle t → IsIdle (record t { stored = ys; book = c })
  idle_left is = record {
    reach = is.reach;
    is_reach = reach_there is.reach is.is_reach;
    goal = sym (goal_same m t ys c left stored floors rises view is.reach is.is_reach) ∙ is.goal;
  }

  pub next_left : (us : List Update) (next : Option ℕ) → IsAcceptable (client_of (view_of t)) us → IsNext t us next → IsNext (record t { stored = ys; book = c }) us next
  next_left us next a is = record {
    reach = is.reach;
    is_reach = reach_there is.reach is.is_reach;
    proof = is.proof;
    is_proof = proof_height m (client_of (view_of t)) (client_of (view_of (record t { stored = ys; book = c }))) both us is.proof a is.is_proof;
    is = is.is ∙ next_same m t ys c left stored floors rises view is.reach is.is_reach us is.proof a (high us a) is.is_proof;
  }

  module _ (r : Option ℕ) (is_reach : IsReach (client_of (view_of t)) r) where
    sending_left : (p : Plan) (s : Sending) → IsAcceptable (client_of (view_of t)) p.updates → IsSending t r p s → IsSending (record t { stored = ys; book = c }) r p s
    sending_left p nothing a is = is
    sending_left p (too_big index) a is =
        subst (λ (gs : List ℕ). IsFirstTooBig t.config.limits gs index) (gases_same m t ys c left stored floors rises view p.updates p.messages (high p.updates a)) is
    sending_left p (batched b) a is = record {
      some = is.some;
      proof = proof_height m (client_of (view_of t)) (client_of (view_of (record t { stored = ys; book = c }))) both p.updates (Some b.proof) a is.proof;
      transactions =
          subst (λ (apart : Bool). IsCut apart t.config.limits (map (gas_of rest) p.updates) (map (λ (x : Message). x.gas) p.messages) b.transactions)
          (apart_same m t ys c left stored floors rises view r is_reach)
          (subst (λ (gs : List ℕ). IsCut (is_apart t r) t.config.limits gs (map (λ (x : Message). x.gas) p.messages) b.transactions)
          (fees_same m t ys c left stored floors rises view p.updates (high p.updates a)) is.transactions);
    }

    plan_left : (goal : Goal) (p : Plan) → IsPlan t r goal p → IsPlan (record t { stored = ys; book = c }) r goal p
    plan_left goal p is = record {
      least = least m (client_of (view_of t)) (client_of (view_of (record t { stored = ys; book = c }))) both goal p.updates is.least;
      proof = is.proof;
      is_proof = proof_height m (client_of (view_of t)) (client_of (view_of (record t { stored = ys; book = c }))) both p.updates is.proof is.least.acceptable is.is_proof;
      messages = is.messages ∙ messages_same m t ys c left stored floors rises view r is_reach is.proof;
      sending = sending_left p p.sending is.least.acceptable is.sending;
    }

  pub planned_left : (p : Planned) → IsPlanned t p → IsPlanned (record t { stored = ys; book = c }) p
  planned_left p is = record {
    reach = is.reach;
    is_reach = reach_there is.reach is.is_reach;
    goal = sym (goal_same m t ys c left stored floors rises view is.reach is.is_reach) ∙ is.goal;
    labels = is.labels;
    exact = exact m (client_of (view_of t)) (client_of (view_of (record t { stored = ys; book = c }))) both (label_of p.labels) is.exact;
    plan = go p.plan is.plan;
  }
    where
      go : (o : Option Plan) → MatchOption o (IsUnreachable (client_of (view_of t)) p.goal) (IsPlan t is.reach p.goal)
          → MatchOption o (IsUnreachable (client_of (view_of (record t { stored = ys; book = c }))) p.goal) (IsPlan (record t { stored = ys; book = c }) is.reach p.goal)
      go None none = unreachable m (client_of (view_of t)) (client_of (view_of (record t { stored = ys; book = c }))) both p.goal none
      go (Some plan) right = plan_left is.reach is.is_reach p.goal plan right

  -- ---- what is reported of updates

  sent_votes : (v : CarriedVotes) (u : Update) → IsAbove m u → sent_by v (view_of t) u.trusted u.height ≡ sent_by v (view_of (record t { stored = ys; book = c })) u.trusted u.height
  sent_votes Commit u above = refl
  sent_votes Cast u above = refl
  sent_votes Needed u above = ap (option_map (sent_of t.config.options)) (same_step m t.book c left u.trusted u.height above.0 above.1)

  pub sent_left : (u : Update) → IsAbove m u → sent_at (view_of t) u.trusted u.height ≡ sent_at (view_of (record t { stored = ys; book = c })) u.trusted u.height
  unfolding sent_at
  sent_left u above = sent_votes t.config.options.votes u above
