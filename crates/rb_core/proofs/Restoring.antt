-- A core begins with what is known, where that fits.
use Rattle.std.proofs.Common.{◌≡◌, ◌↔◌, ℕ, ◌+◌, ◌<◌, ◌≤◌, ◌==◌, nat_le, Bool, true, false, not, if◌then◌else◌, List, [], length, take, get_or, All, Option, Some, None, IfSome, IsSomeAnd, IsTrue, replicate, sym, ap, subst, refl, inl, inr, arith}
use Rattle.std.specs.List.{list_all, slice_get}
use Rattle.std.proofs.lemmas.Bool.{cases_lt, eq-eqb, ne_eqb, true≢false, false≢true}
use Rattle.std.proofs.lemmas.List.{take_more}
use Rattle.std.proofs.lemmas.List.Elements.{All-map, All-nil, All-push}
use Rattle.std.proofs.lemmas.Option.{slice_get_past}
use Rattle.rb_base.specs.declared.gate.Part.TheVariants.{Packets, Channel}
use Rattle.rb_script_types.specs.Config.{Config}
use Rattle.rb_script_types.specs.declared.config.PathConfig.{PathConfig}
use Rattle.rb_core_model.specs.Begun.{IsBegun, max_begun}
use Rattle.rb_core_model.specs.Config.{part_for}
use Rattle.rb_core_model.specs.Event.{IsEvent}
use Rattle.rb_core_model.specs.Fits.{Fits}
use Rattle.rb_core_model.specs.Machine.{State, begun, no_scans}
use Rattle.rb_core_model.specs.Snapshot.{ClientSnapshot, Snapshot, snapshot_of_client, snapshot_of}
use Rattle.rb_core_model.specs.Standing.{Standing}
use Rattle.rb_core_model.proofs.Configs.{IsConfigured, snapshot_back}
use Rattle.rb_core_state.specs.Room.{ClientWithRoom, clients_of}
use Rattle.rb_core.proofs.Anew.{few_all}

-- what stands as it is configured is what is begun with what is known of it
pub stands : (config : Config) (s : Standing) → IsConfigured config s
    → (record { standing = s; plans = replicate (length config.clients) 0; scans = replicate (length config.paths) no_scans; front = 0 }) ≡ begun config (snapshot_of s)
stands config s is = λ i. record {
  standing = sym (snapshot_back config s is) i;
  plans = replicate (length config.clients) 0;
  scans = replicate (length config.paths) no_scans;
  front = 0;
}

-- what holds of what was found
pub found : {X : Type 0} (o : Option X) (x : X) (P : X → Type 0) → o ≡ Some x → IfSome o P → P x
found o x P is holds = subst (λ p. IfSome p P) is holds

-- a relayer may begin with what fits
pub fitting_begun : (config : Config) (start : Snapshot) (s : State) (hs : List ClientWithRoom) → s ≡ begun config start → snapshot_of s.standing ≡ start → clients_of hs ≡ s.standing.clients
    → list_all (λ (h : ClientWithRoom). nat_le h.client.batches max_begun) hs ≡ true → Fits s.standing → IsBegun config start
fitting_begun config start s hs state known clients few fits = record {
  first = start;
  fits = inr (subst Fits (ap (λ (t : State). t.standing) state) fits);
  earlier = [];
  events = All-nil (All IsEvent);
  is = refl;
  few = subst (λ (x : Snapshot). All (λ (y : ClientSnapshot). y.batches ≤ max_begun) x.clients) known
      (All-map (λ (y : ClientSnapshot). y.batches ≤ max_begun) snapshot_of_client s.standing.clients (subst (λ cs. All (λ c. c.batches ≤ max_begun) cs) clients (few_all hs few)));
}

-- ---- a fact of each element, one after another

pub all_more : {X : Type 0} (P : X → Type 0) (xs : List X) (n : ℕ) (x : X) → n < length xs → x ≡ get_or xs n x → All P (take n xs) → P x → All P (take (n + 1) xs)
all_more P xs n x within e kept new = rw (take_more xs n x within, sym e) (All-push P (take n xs) x kept new)

-- by its place

module _ {X : Type 0} (P : ℕ → X → Type 0) (xs : List X) (n : ℕ) where
  pub one_more : (x : X) → slice_get xs n ≡ Some x → P n x → ((i : ℕ) → i < n → IfSome (slice_get xs i) (P i)) → (i : ℕ) → i < n + 1 → IfSome (slice_get xs i) (P i)
  one_more x at here before i lt = elim (cases_lt i n) [
    | inl below ↦ before i below
    | inr above ↦
        let e : n ≡ i = omega (arith, lt, above) in
        subst (λ j. IfSome (slice_get xs j) (P j)) e (subst (λ o. IfSome o (P n)) (sym at) here)
  ]

  pub for_all : length xs ≤ n → ((i : ℕ) → i < n → IfSome (slice_get xs i) (P i)) → (i : ℕ) → IfSome (slice_get xs i) (P i)
  for_all long before i = elim (cases_lt i n) [
    | inl below ↦ before i below
    | inr above ↦ subst (λ o. IfSome o (P i)) (sym (slice_get_past xs i (omega (arith, long, above)))) tt
  ]

-- ---- the clients of a path

pub receives_for : (p : PathConfig) (client : ℕ) → IsTrue (p.forward == client) ↔ (part_for p client ≡ Some Packets)
receives_for p client = go (p.forward == client) (p.back == client)
  where
    go : (a b : Bool) → IsTrue a ↔ ((if a then Some Packets else (if b then Some Channel else None)) ≡ Some Packets)
    go true b = (λ _. refl, λ _. refl)
    go false true = (λ h. absurd (false≢true h), λ e. absurd (cc))
    go false false = (λ h. absurd (false≢true h), λ e. absurd (cc))

pub outcomes_for : (p : PathConfig) (client : ℕ) → (p.forward ≡ client → ⊥) → IsTrue (p.back == client) ↔ (part_for p client ≡ Some Channel)
outcomes_for p client other = go (p.forward == client) (ne_eqb p.forward client other) (p.back == client)
  where
    go : (a : Bool) → a ≡ false → (b : Bool) → IsTrue b ↔ ((if a then Some Packets else (if b then Some Channel else None)) ≡ Some Channel)
    go true e b = absurd (true≢false e)
    go false e true = (λ _. refl, λ _. refl)
    go false e false = (λ h. absurd (false≢true h), λ h. absurd (cc))

pub no_outcomes_for : (p : PathConfig) (client : ℕ) → p.forward ≡ client → IsTrue (not (p.forward == client)) ↔ (part_for p client ≡ Some Channel)
no_outcomes_for p client same = go (p.forward == client) (eq-eqb p.forward client same) (p.back == client)
  where
    go : (a : Bool) → a ≡ true → (b : Bool) → IsTrue (not a) ↔ ((if a then Some Packets else (if b then Some Channel else None)) ≡ Some Channel)
    go true e b = (λ h. absurd (false≢true h), λ h. absurd (cc))
    go false e b = absurd (false≢true e)

-- a message's path is there and has it, or it isn't
pub seen_none : {X : Type 0} (o : Option X) (P : X → Type 0) → o ≡ None → IsTrue false ↔ IsSomeAnd o P
seen_none o P e = (λ h. absurd (false≢true h), λ f. absurd (subst (λ p. IsSomeAnd p P) e f))

pub seen_some : {X : Type 0} (o : Option X) (P : X → Type 0) (x : X) (b : Bool) → o ≡ Some x → IsTrue b ↔ P x → IsTrue b ↔ IsSomeAnd o P
seen_some o P x b e h = subst (λ p. IsTrue b ↔ IsSomeAnd p P) (sym e) h
