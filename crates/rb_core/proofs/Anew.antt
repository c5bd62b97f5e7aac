-- A core that begins anew is the fold of its new log.
use Rattle.std.proofs.Common.{◌≡◌, ℕ, zero, suc, ◌+◌, ◌<◌, ◌≤◌, nat_le, true, List, [], ◌∷◌, ◌++◌, length, map, take, replicate, All, refl, sym, ap, ◌∙◌, subst, arith}
use Rattle.std.specs.List.{AllByRecursion, enumerate_from, fold, list_all}
use Rattle.std.proofs.lemmas.Bool.{and_parts, leb-true}
use Rattle.std.proofs.lemmas.List.Elements.{All-cons, All-from_recursion, All-map, All-nil}
use Rattle.rb_book.specs.Book.{Book}
use Rattle.rb_script_types.specs.Config.{Config}
use Rattle.rb_core.specs.Core.{IsFold}
use Rattle.rb_core_state.specs.Room.{ClientWithRoom, clients_of}
use Rattle.rb_core_model.specs.Begun.{IsBegun, max_begun}
use Rattle.rb_core_model.specs.Entry.{log_from}
use Rattle.rb_core_model.specs.Event.{IsEvent}
use Rattle.rb_core_model.specs.Forgetting.{rest_at_floors}
use Rattle.rb_core_model.specs.Machine.{State, no_scans, begun, after}
use Rattle.rb_core_model.specs.Snapshot.{ClientSnapshot, Log, snapshot_of_client, snapshot_of, standing_from}
use Rattle.rb_core_model.specs.Standing.{ClientState}
use Rattle.rb_core_model.proofs.Configs.{IsConfigured, configured_begun, configured_fold, configured_left, snapshot_back}

-- what is left of a state, before the first event of a new log
abbrev pub left_of : Config → State → State
left_of config s = record {
  standing = rest_at_floors s.standing;
  plans = replicate (length config.clients) 0;
  scans = replicate (length config.paths) no_scans;
  front = 0;
}

module _ (config : Config) (log : Log) (s t : State) (is : IsFold config log s) (made : t ≡ left_of config s) where
  same : t.standing ≡ rest_at_floors s.standing
  same = ap (λ (u : State). u.standing) made

  configured : IsConfigured config t.standing
  configured =
      subst (IsConfigured config) (sym same)
      (configured_left config s.standing
      (subst (λ (u : State). IsConfigured config u.standing) (sym is.state) (configured_fold config log.events (begun config log.start) (configured_begun config log.start))))

  back : standing_from config (snapshot_of t.standing) ≡ t.standing
  back = snapshot_back config t.standing configured

  starts : All (λ (c : ClientState). c.batches ≤ max_begun) t.standing.clients → IsBegun config (snapshot_of t.standing)
  starts few = record {
    first = is.begun.first;
    fits = is.begun.fits;
    earlier = log.events ∷ is.begun.earlier;
    events = All-cons (All IsEvent) log.events is.begun.earlier is.events is.begun.events;
    is =
        ap snapshot_of same ∙ ap (λ (u : State). snapshot_of (rest_at_floors u.standing)) is.state
        ∙ ap (λ x. snapshot_of (rest_at_floors (fold after (begun config x) log.events).standing)) is.begun.is;
    few = All-map (λ (x : ClientSnapshot). x.batches ≤ max_begun) snapshot_of_client t.standing.clients few;
  }

  pub begins_anew : All (λ (c : ClientState). c.batches ≤ max_begun) t.standing.clients → IsFold config (log_from config (snapshot_of t.standing) []) t
  begins_anew few = record {
    state = made ∙ (λ i. record {
      standing = (sym same ∙ sym back) i;
      plans = replicate (length config.clients) 0;
      scans = replicate (length config.paths) no_scans;
      front = 0;
    });
    set_up = is.set_up;
    begun = starts few;
    events = All-nil IsEvent;
    accepted = refl;
  }

-- ---- the floors of the chains, as numbers

-- a number for each chain, by its place
abbrev pub numbers : (ℕ → ℕ) → ℕ → List Book → List ℕ
numbers f n books = map (λ (p : ℕ × Book). f p.0) (enumerate_from n books)

pub numbered : (f : ℕ → ℕ) (n : ℕ) (books : List Book) (i : ℕ) → i < length books → numbers f n (take i books) ++ f (n + i) ∷ [] ≡ numbers f n (take (suc i) books)
numbered f n [] i lt = absurd (omega (arith, lt))
numbered f n (b ∷ books) zero lt = (let e : n + 0 ≡ n = omega arith in ap (λ k. f k ∷ []) e)
numbered f n (b ∷ books) (suc i) lt =
    let e : n + suc i ≡ n + 1 + i = omega arith in
    ap (λ k. f n ∷ (numbers f (n + 1) (take i books) ++ f k ∷ [])) e ∙ ap (λ ks. f n ∷ ks) (numbered f (n + 1) books i (omega (arith, lt)))

-- ---- few batches

few_each : (hs : List ClientWithRoom) → list_all (λ (h : ClientWithRoom). nat_le h.client.batches max_begun) hs ≡ true → AllByRecursion (λ (c : ClientState). c.batches ≤ max_begun) (clients_of hs)
few_each [] e = tt
few_each (h ∷ hs) e =
    let parts = and_parts (nat_le h.client.batches max_begun) (list_all (λ (k : ClientWithRoom). nat_le k.client.batches max_begun) hs) e in
    (leb-true h.client.batches max_begun parts.0, few_each hs parts.1)

pub few_all : (hs : List ClientWithRoom) → list_all (λ (h : ClientWithRoom). nat_le h.client.batches max_begun) hs ≡ true → All (λ (c : ClientState). c.batches ≤ max_begun) (clients_of hs)
few_all hs e = All-from_recursion (λ (c : ClientState). c.batches ≤ max_begun) (clients_of hs) (few_each hs e)
