-- Which packets were settled, and what keeps that.
use Rattle.std.proofs.Common.{◌≡◌, ◌⊎◌, ℕ, zero, suc, Bool, true, false, cond, eqb, ltb, List, [], ◌∷◌, ◌++◌, map, take, drop, Option, Some, None, refl, sym, ap, ◌∙◌, subst, inl, inr, set}
use Rattle.std.specs.List.{find, insert, count_by, slice_get, AllByRecursion}
use Rattle.std.specs.Option.{option_map, option_and_then, option_or, option_map_or}
use Rattle.std.proofs.lemmas.Bool.{eq-eqb, eqb-true, ne_eqb, cases_eq}
use Rattle.std.proofs.lemmas.Option.{none-some, same_Some}
use Rattle.std.proofs.lemmas.List.{take-append-drop}
use Rattle.rb_scan.specs.Packet.{Packet}
use Rattle.rb_scan.specs.declared.message.Kind.{Kind}
use Rattle.rb_scan.specs.declared.message.Kind.TheVariants.{Receive, Acknowledge, Timeout}
use Rattle.rb_scan.specs.declared.message.PacketMsg.{PacketMsg}
use Rattle.rb_base.specs.declared.gate.Part.{Part}
use Rattle.rb_base.specs.declared.gate.Part.TheVariants.{Packets, Channel}
use Rattle.rb_core_model.specs.Fits as fits
use Rattle.rb_core_model.specs.Standing.{PathState, changed_at, marked, with_mark, with_packet, mark_of, after_message, after_messages}
use Rattle.rb_plan_client.specs.Task.{Message}
use Rattle.rb_core_model.proofs.Options.{chained, get_changed_same, get_changed_other}
use Rattle.rb_core_model.proofs.Owed.{IsFound, append_all, found_sequence}

-- ---- lists

pub all_at : {X : Type 0} (P : X → Type 0) (xs : List X) (k : ℕ) (x : X) → AllByRecursion P xs → slice_get xs k ≡ Some x → P x
all_at P [] k x all e = absurd (none-some x e)
all_at P (y ∷ xs) zero x all e = subst P (same_Some y x e) all.0
all_at P (y ∷ xs) (suc k) x all e = all_at P xs k x all.1 e

pub all_take : {X : Type 0} (P : X → Type 0) (n : ℕ) (xs : List X) → AllByRecursion P xs → AllByRecursion P (take n xs)
all_take P zero xs all = tt
all_take P (suc n) [] all = tt
all_take P (suc n) (x ∷ xs) all = (all.0, all_take P n xs all.1)

pub all_drop : {X : Type 0} (P : X → Type 0) (n : ℕ) (xs : List X) → AllByRecursion P xs → AllByRecursion P (drop n xs)
all_drop P zero xs all = all
all_drop P (suc n) [] all = tt
all_drop P (suc n) (x ∷ xs) all = all_drop P n xs all.1

pub all_weaker : {X : Type 0} (P Q : X → Type 0) → ((x : X) → P x → Q x) → (xs : List X) → AllByRecursion P xs → AllByRecursion Q xs
all_weaker P Q f [] all = tt
all_weaker P Q f (x ∷ xs) all = (f x all.0, all_weaker P Q f xs all.1)

-- ---- packets by their sequences

abbrev pub has : ℕ → Packet → Bool
has s p = eqb p.sequence s

find-append : (t : Packet → Bool) (xs ys : List Packet) → find t (xs ++ ys) ≡ option_or (find t xs) (find t ys)
find-append t [] ys = refl
find-append t (x ∷ xs) ys = go (t x) (find-append t xs ys)
  where
    go : (b : Bool) → find t (xs ++ ys) ≡ option_or (find t xs) (find t ys) → cond b (Some x) (find t (xs ++ ys)) ≡ option_or (cond b (Some x) (find t xs)) (find t ys)
    go true rest = refl
    go false rest = rest

whole : (t : Packet → Bool) (ps : List Packet) (n : ℕ) → find t ps ≡ option_or (find t (take n ps)) (find t (drop n ps))
whole t ps n = ap (find t) (sym (take-append-drop n ps)) ∙ find-append t (take n ps) (drop n ps)

pub insert_other : (t : Packet → Bool) (ps : List Packet) (n : ℕ) (q : Packet) → t q ≡ false → find t (insert ps n q) ≡ find t ps
insert_other t ps n q e =
    find-append t (take n ps) (q ∷ drop n ps) ∙ ap (λ b. option_or (find t (take n ps)) (cond b (Some q) (find t (drop n ps)))) e ∙ sym (whole t ps n)

insert_new : (t : Packet → Bool) (ps : List Packet) (n : ℕ) (q : Packet) → t q ≡ true → find t ps ≡ None → find t (insert ps n q) ≡ Some q
insert_new t ps n q e gone =
    find-append t (take n ps) (q ∷ drop n ps) ∙ ap (λ b. option_or (find t (take n ps)) (cond b (Some q) (find t (drop n ps)))) e
    ∙ ap (λ o. option_or o (Some q)) (first (find t (take n ps)) (sym (whole t ps n) ∙ gone))
  where
    first : (o : Option Packet) → option_or o (find t (drop n ps)) ≡ None → o ≡ None
    first None h = refl
    first (Some x) h = absurd (none-some x (sym h))

pub find_map : (g : Packet → Packet) → ((q : Packet) → (g q).sequence ≡ q.sequence) → (s : ℕ) (ps : List Packet) → find (has s) (map g ps) ≡ option_map g (find (has s) ps)
find_map g same s [] = refl
find_map g same s (p ∷ ps) = ap (λ n. cond (eqb n s) (Some (g p)) (find (has s) (map g ps))) (same p) ∙ go (eqb p.sequence s) (find_map g same s ps)
  where
    go : (b : Bool) → find (has s) (map g ps) ≡ option_map g (find (has s) ps) → cond b (Some (g p)) (find (has s) (map g ps)) ≡ option_map g (cond b (Some p) (find (has s) ps))
    go true rest = refl
    go false rest = rest

-- ---- marks

abbrev pub part_of : Kind → Part
part_of = fits.part_of

-- the message of that part for the packet is settled
abbrev pub is_settled : Part → Packet → Bool
is_settled = fits.is_settled

abbrev pub mark_in : List Packet → Part → ℕ → Option Bool
mark_in ps part s = option_map (is_settled part) (find (has s) ps)

abbrev pub mark_at : List PathState → ℕ → Part → ℕ → Option Bool
mark_at paths path part s = option_and_then (λ (p : PathState). mark_in p.packets part s) (slice_get paths path)

-- each packet is the one that its sequence finds
abbrev pub AllFound : PathState → Type 0
AllFound p = AllByRecursion (IsFound p.packets) p.packets

-- ---- one path changes and keeps its marks

pub record KeepsPath (p q : PathState) : Type 0 where
  pub config : q.config ≡ p.config
  pub found : AllFound p → AllFound q
  pub marks : (part : Part) (s : ℕ) (b : Bool) → mark_in p.packets part s ≡ Some b → mark_in q.packets part s ≡ Some b

found_map : (g : Packet → Packet) → ((q : Packet) → (g q).sequence ≡ q.sequence) → (ps qs : List Packet) → AllByRecursion (IsFound ps) qs → AllByRecursion (IsFound (map g ps)) (map g qs)
found_map g same ps [] all = tt
found_map g same ps (q ∷ qs) all = (
  ap (λ s. find (has s) (map g ps)) (same q) ∙ find_map g same q.sequence ps ∙ ap (option_map g) all.0,
  found_map g same ps qs all.1,
)

pub marked_sequence : (f : Packet → Packet) → ((q : Packet) → (f q).sequence ≡ q.sequence) → (s : ℕ) (q : Packet) → (marked f s q).sequence ≡ q.sequence
marked_sequence f same s q = go (eqb q.sequence s)
  where
    go : (b : Bool) → (cond b (f q) q).sequence ≡ q.sequence
    go true = same q
    go false = refl

-- a mark that settles nothing
pub keeps_marked : (f : Packet → Packet) (sequence : ℕ) → ((q : Packet) → (f q).sequence ≡ q.sequence) → ((part : Part) (q : Packet) → is_settled part (f q) ≡ is_settled part q)
    → (p : PathState) → KeepsPath p (with_mark f sequence p)
keeps_marked f sequence same settles p = record {
  config = refl;
  found = found_map (marked f sequence) (marked_sequence f same sequence) p.packets p.packets;
  marks = λ part s b e. ap (option_map (is_settled part)) (find_map (marked f sequence) (marked_sequence f same sequence) s p.packets) ∙ as_before part (find (has s) p.packets) ∙ e;
}
  where
    either : (part : Part) (q : Packet) (b : Bool) → is_settled part (cond b (f q) q) ≡ is_settled part q
    either part q true = settles part q
    either part q false = refl

    as_before : (part : Part) (o : Option Packet) → option_map (is_settled part) (option_map (marked f sequence) o) ≡ option_map (is_settled part) o
    as_before part None = refl
    as_before part (Some q) = ap (λ b. Some b) (either part q (eqb q.sequence sequence))

-- one packet more
found_beside : (ps : List Packet) (n : ℕ) (x : Packet) → find (has x.sequence) ps ≡ None → (qs : List Packet) → AllByRecursion (IsFound ps) qs → AllByRecursion (IsFound (insert ps n x)) qs
found_beside ps n x new [] all = tt
found_beside ps n x new (q ∷ qs) all = (
  insert_other (has q.sequence) ps n x (ne_eqb x.sequence q.sequence (λ e. none-some q (sym new ∙ ap (λ s. find (has s) ps) e ∙ all.0))) ∙ all.0,
  found_beside ps n x new qs all.1,
)

pub keeps_packet : (x : Packet) (p : PathState) → find (has x.sequence) p.packets ≡ None → KeepsPath p (with_packet x p)
keeps_packet x p new = record {
  config = refl;
  found = λ all. placed_all _ all;
  marks = λ part s b e. beside part s b (count_by (λ (other : Packet). ltb other.sequence x.sequence) p.packets) e;
}
  where
    placed_all : (n : ℕ) → AllFound p → AllByRecursion (IsFound (insert p.packets n x)) (insert p.packets n x)
    placed_all n all =
        append_all (IsFound (insert p.packets n x)) (take n p.packets) (x ∷ drop n p.packets)
        (found_beside p.packets n x new (take n p.packets) (all_take (IsFound p.packets) n p.packets all))
        (insert_new (has x.sequence) p.packets n x (eq-eqb x.sequence x.sequence refl) new, found_beside p.packets n x new (drop n p.packets) (all_drop (IsFound p.packets) n p.packets all))

    other_than : (part : Part) (s : ℕ) (b : Bool) → mark_in p.packets part s ≡ Some b → x.sequence ≡ s → ⊥
    other_than part s b e same = none-some b (sym (ap (option_map (is_settled part)) (ap (λ t. find (has t) p.packets) (sym same) ∙ new)) ∙ e)

    beside : (part : Part) (s : ℕ) (b : Bool) (n : ℕ) → mark_in p.packets part s ≡ Some b → mark_in (insert p.packets n x) part s ≡ Some b
    beside part s b n e = ap (option_map (is_settled part)) (insert_other (has s) p.packets n x (ne_eqb x.sequence s (other_than part s b e))) ∙ e

-- ---- a list of paths in which one changes

pub record KeepsPaths (ps qs : List PathState) : Type 0 where
  pub configs : map (λ (p : PathState). p.config) qs ≡ map (λ (p : PathState). p.config) ps
  pub found : AllByRecursion AllFound ps → AllByRecursion AllFound qs
  pub marks : (path : ℕ) (part : Part) (s : ℕ) (b : Bool) → mark_at ps path part s ≡ Some b → mark_at qs path part s ≡ Some b

pub keeps_all : (ps : List PathState) → KeepsPaths ps ps
keeps_all ps = record { configs = refl; found = λ all. all; marks = λ path part s b e. e }

configs_set : (f : PathState → PathState) (ps : List PathState) (i : ℕ) (p : PathState) → slice_get ps i ≡ Some p → (f p).config ≡ p.config
    → map (λ (q : PathState). q.config) (set ps i (f p)) ≡ map (λ (q : PathState). q.config) ps
configs_set f [] i p e same = refl
configs_set f (q ∷ ps) zero p e same = ap (λ c. c ∷ map (λ (q : PathState). q.config) ps) (same ∙ ap (λ (x : PathState). x.config) (sym (same_Some q p e)))
configs_set f (q ∷ ps) (suc i) p e same = ap (λ cs. q.config ∷ cs) (configs_set f ps i p e same)

found_set : (ps : List PathState) (i : ℕ) (q : PathState) → AllFound q → AllByRecursion AllFound ps → AllByRecursion AllFound (set ps i q)
found_set [] i q one all = tt
found_set (p ∷ ps) zero q one all = (one, all.1)
found_set (p ∷ ps) (suc i) q one all = (all.0, found_set ps i q one all.1)

pub configs_changed : (f : PathState → PathState) → ((p : PathState) → (f p).config ≡ p.config) → (ps : List PathState) (i : ℕ)
    → map (λ (q : PathState). q.config) (changed_at f ps i) ≡ map (λ (q : PathState). q.config) ps
configs_changed f same ps i = go (slice_get ps i) refl
  where
    go : (o : Option PathState) → slice_get ps i ≡ o → map (λ (q : PathState). q.config) (option_map_or (λ x. set ps i (f x)) o ps) ≡ map (λ (q : PathState). q.config) ps
    go None e = refl
    go (Some p) e = configs_set f ps i p e (same p)

pub found_changed : (f : PathState → PathState) (ps : List PathState) (i : ℕ) → ((p : PathState) → slice_get ps i ≡ Some p → AllFound p → AllFound (f p))
    → AllByRecursion AllFound ps → AllByRecursion AllFound (changed_at f ps i)
found_changed f ps i one all = go (slice_get ps i) refl
  where
    go : (o : Option PathState) → slice_get ps i ≡ o → AllByRecursion AllFound (option_map_or (λ x. set ps i (f x)) o ps)
    go None e = all
    go (Some p) e = found_set ps i (f p) (one p e (all_at AllFound ps i p all e)) all

pub keeps_changed : (f : PathState → PathState) (ps : List PathState) (i : ℕ) → ((p : PathState) → (f p).config ≡ p.config) → ((p : PathState) → slice_get ps i ≡ Some p → KeepsPath p (f p)) → KeepsPaths ps (changed_at f ps i)
keeps_changed f ps i same one = record {
  configs = configs_changed f same ps i;
  found = found_changed f ps i (λ p e. (one p e).found);
  marks = λ path part s b e.
      let at = chained (λ (p : PathState). mark_in p.packets part s) (slice_get ps path) b e in
      elim (cases_eq path i) [
        | inl here ↦
            let there : slice_get ps i ≡ Some at.0 = ap (slice_get ps) (sym here) ∙ at.1 in
            ap (λ n. mark_at (changed_at f ps i) n part s) here ∙ ap (option_and_then (λ (p : PathState). mark_in p.packets part s)) (get_changed_same f ps i at.0 there)
            ∙ (one at.0 there).marks part s b at.2
        | inr other ↦ ap (option_and_then (λ (p : PathState). mark_in p.packets part s)) (get_changed_other f ps i path other) ∙ e
      ];
}

-- ---- settled messages

-- the message is for that part of that packet
abbrev pub IsAbout : ℕ → Part → ℕ → Message → Type 0
IsAbout path part s m = (m.path ≡ path) × (part_of m.packet.kind ≡ part) × (m.packet.sequence ≡ s)

pub mark_of_sequence : (kind : Kind) (q : Packet) → (mark_of kind q).sequence ≡ q.sequence
mark_of_sequence Receive q = refl
mark_of_sequence Acknowledge q = refl
mark_of_sequence Timeout q = refl

mark_of_part : (kind : Kind) (q : Packet) → is_settled (part_of kind) (mark_of kind q) ≡ true
mark_of_part Receive q = refl
mark_of_part Acknowledge q = refl
mark_of_part Timeout q = refl

mark_of_other : (kind : Kind) (part : Part) (q : Packet) → (part_of kind ≡ part → ⊥) → is_settled part (mark_of kind q) ≡ is_settled part q
mark_of_other Receive Packets q other = absurd (other refl)
mark_of_other Receive Channel q other = refl
mark_of_other Acknowledge Packets q other = refl
mark_of_other Acknowledge Channel q other = absurd (other refl)
mark_of_other Timeout Packets q other = refl
mark_of_other Timeout Channel q other = absurd (other refl)

same_part : (a b : Part) → (a ≡ b) ⊎ (a ≡ b → ⊥)
same_part Packets Packets = inl refl
same_part Packets Channel = inr (λ e. cc)
same_part Channel Packets = inr (λ e. cc)
same_part Channel Channel = inl refl

module _ (m : PacketMsg) (p : PathState) where
  found_settled : (s : ℕ) → find (has s) (after_message m p).packets ≡ option_map (marked (mark_of m.kind) m.sequence) (find (has s) p.packets)
  found_settled s = find_map (marked (mark_of m.kind) m.sequence) (marked_sequence (mark_of m.kind) (mark_of_sequence m.kind) m.sequence) s p.packets

  all_settled : AllFound p → AllFound (after_message m p)
  all_settled all = found_map (marked (mark_of m.kind) m.sequence) (marked_sequence (mark_of m.kind) (mark_of_sequence m.kind) m.sequence) p.packets p.packets all

  -- the message's own mark is set
  own_mark : (b : Bool) → mark_in p.packets (part_of m.kind) m.sequence ≡ Some b → mark_in (after_message m p).packets (part_of m.kind) m.sequence ≡ Some true
  own_mark b e = ap (option_map (is_settled (part_of m.kind))) (found_settled m.sequence) ∙ go (find (has m.sequence) p.packets) refl e
    where
      go : (o : Option Packet) → find (has m.sequence) p.packets ≡ o → option_map (is_settled (part_of m.kind)) o ≡ Some b
          → option_map (is_settled (part_of m.kind)) (option_map (marked (mark_of m.kind) m.sequence) o) ≡ Some true
      go None at f = absurd (none-some b f)
      go (Some q) at f =
          ap (λ t. Some (is_settled (part_of m.kind) (cond t (mark_of m.kind q) q))) (eq-eqb q.sequence m.sequence (found_sequence p.packets m.sequence q at))
          ∙ ap (λ t. Some t) (mark_of_part m.kind q)

  -- another one stays
  other_mark : (part : Part) (s : ℕ) → ((part_of m.kind ≡ part) × (m.sequence ≡ s) → ⊥) → mark_in (after_message m p).packets part s ≡ mark_in p.packets part s
  other_mark part s other = ap (option_map (is_settled part)) (found_settled s) ∙ go (find (has s) p.packets) refl
    where
      by_test : (q : Packet) → q.sequence ≡ s → (b : Bool) → eqb q.sequence m.sequence ≡ b → is_settled part (cond b (mark_of m.kind q) q) ≡ is_settled part q
      by_test q at true e = mark_of_other m.kind part q (λ same. other (same, sym (eqb-true q.sequence m.sequence e) ∙ at))
      by_test q at false e = refl

      go : (o : Option Packet) → find (has s) p.packets ≡ o → option_map (is_settled part) (option_map (marked (mark_of m.kind) m.sequence) o) ≡ option_map (is_settled part) o
      go None at = refl
      go (Some q) at = ap (λ t. Some t) (by_test q (found_sequence p.packets s q at) (eqb q.sequence m.sequence) refl)

-- one message is settled
abbrev settle : List PathState → Message → List PathState
settle ps m = changed_at (after_message m.packet) ps m.path

settle_own : (ps : List PathState) (m : Message) (b : Bool) → mark_at ps m.path (part_of m.packet.kind) m.packet.sequence ≡ Some b
    → mark_at (settle ps m) m.path (part_of m.packet.kind) m.packet.sequence ≡ Some true
settle_own ps m b e =
    let at = chained (λ (p : PathState). mark_in p.packets (part_of m.packet.kind) m.packet.sequence) (slice_get ps m.path) b e in
    ap (option_and_then (λ (p : PathState). mark_in p.packets (part_of m.packet.kind) m.packet.sequence)) (get_changed_same (after_message m.packet) ps m.path at.0 at.1)
    ∙ own_mark m.packet at.0 b at.2

settle_other : (ps : List PathState) (m : Message) (path : ℕ) (part : Part) (s : ℕ) (b : Bool) → (IsAbout path part s m → ⊥) → mark_at ps path part s ≡ Some b → mark_at (settle ps m) path part s ≡ Some b
settle_other ps m path part s b other e =
    let at = chained (λ (p : PathState). mark_in p.packets part s) (slice_get ps path) b e in
    elim (cases_eq path m.path) [
      | inl here ↦
          let there : slice_get ps m.path ≡ Some at.0 = ap (slice_get ps) (sym here) ∙ at.1 in
          ap (λ n. mark_at (settle ps m) n part s) here
          ∙ ap (option_and_then (λ (p : PathState). mark_in p.packets part s)) (get_changed_same (after_message m.packet) ps m.path at.0 there)
          ∙ other_mark m.packet at.0 part s (λ both. other (sym here, both.0, both.1)) ∙ at.2
      | inr elsewhere ↦ ap (option_and_then (λ (p : PathState). mark_in p.packets part s)) (get_changed_other (after_message m.packet) ps m.path path elsewhere) ∙ e
    ]

about : (path : ℕ) (part : Part) (s : ℕ) (m : Message) → IsAbout path part s m ⊎ (IsAbout path part s m → ⊥)
about path part s m = elim (cases_eq m.path path) [
  | inr other ↦ inr (λ is. other is.0)
  | inl one ↦ elim (same_part (part_of m.packet.kind) part) [
    | inr other ↦ inr (λ is. other is.1)
    | inl two ↦ elim (cases_eq m.packet.sequence s) [
      | inr other ↦ inr (λ is. other is.2)
      | inl three ↦ inl (one, two, three)
    ]
  ]
]

-- what is marked stays marked
settle_grows : (ps : List PathState) (m : Message) (path : ℕ) (part : Part) (s : ℕ) → mark_at ps path part s ≡ Some true → mark_at (settle ps m) path part s ≡ Some true
settle_grows ps m path part s e = elim (about path part s m) [
  | inr other ↦ settle_other ps m path part s true other e
  | inl is ↦
      subst (λ (k : ℕ × Part × ℕ). mark_at (settle ps m) k.0 k.1 k.2 ≡ Some true) (λ i. (is.0 i, is.1 i, is.2 i))
      (settle_own ps m true (subst (λ (k : ℕ × Part × ℕ). mark_at ps k.0 k.1 k.2 ≡ Some true) (λ i. (sym is.0 i, sym is.1 i, sym is.2 i)) e))
]

pub all_grow : (ms : List Message) (ps : List PathState) (path : ℕ) (part : Part) (s : ℕ) → mark_at ps path part s ≡ Some true → mark_at (after_messages ps ms) path part s ≡ Some true
all_grow [] ps path part s e = e
all_grow (m ∷ ms) ps path part s e = all_grow ms (settle ps m) path part s (settle_grows ps m path part s e)

pub all_others : (ms : List Message) (ps : List PathState) (path : ℕ) (part : Part) (s : ℕ) (b : Bool) → AllByRecursion (λ m. IsAbout path part s m → ⊥) ms
    → mark_at ps path part s ≡ Some b → mark_at (after_messages ps ms) path part s ≡ Some b
all_others [] ps path part s b others e = e
all_others (m ∷ ms) ps path part s b others e = all_others ms (settle ps m) path part s b others.1 (settle_other ps m path part s b others.0 e)

-- a packet that is there has a mark, whatever is settled
settle_some : (ps : List PathState) (m : Message) (path : ℕ) (part : Part) (s : ℕ) (b : Bool) → mark_at ps path part s ≡ Some b → (c : Bool) × (mark_at (settle ps m) path part s ≡ Some c)
settle_some ps m path part s b e = elim (about path part s m) [
  | inr other ↦ (b, settle_other ps m path part s b other e)
  | inl is ↦ (
    true,
    subst (λ (k : ℕ × Part × ℕ). mark_at (settle ps m) k.0 k.1 k.2 ≡ Some true) (λ i. (is.0 i, is.1 i, is.2 i))
        (settle_own ps m b (subst (λ (k : ℕ × Part × ℕ). mark_at ps k.0 k.1 k.2 ≡ Some b) (λ i. (sym is.0 i, sym is.1 i, sym is.2 i)) e)),
  )
]

-- the messages that are settled are marked
pub all_marked : (ms : List Message) (ps : List PathState) (k : ℕ) (m : Message) (b : Bool) → slice_get ms k ≡ Some m → mark_at ps m.path (part_of m.packet.kind) m.packet.sequence ≡ Some b
    → mark_at (after_messages ps ms) m.path (part_of m.packet.kind) m.packet.sequence ≡ Some true
all_marked [] ps k m b at e = absurd (none-some m at)
all_marked (n ∷ ms) ps zero m b at e =
    all_grow ms (settle ps n) m.path (part_of m.packet.kind) m.packet.sequence
    (subst (λ (x : Message). mark_at (settle ps x) m.path (part_of m.packet.kind) m.packet.sequence ≡ Some true) (sym (same_Some n m at)) (settle_own ps m b e))
all_marked (n ∷ ms) ps (suc k) m b at e =
    let next = settle_some ps n m.path (part_of m.packet.kind) m.packet.sequence b e in
    all_marked ms (settle ps n) k m next.0 at next.1

pub configs_messages : (ms : List Message) (ps : List PathState) → map (λ (p : PathState). p.config) (after_messages ps ms) ≡ map (λ (p : PathState). p.config) ps
configs_messages [] ps = refl
configs_messages (m ∷ ms) ps = configs_messages ms (settle ps m) ∙ configs_changed (after_message m.packet) (λ p. refl) ps m.path

pub found_messages : (ms : List Message) (ps : List PathState) → AllByRecursion AllFound ps → AllByRecursion AllFound (after_messages ps ms)
found_messages [] ps all = all
found_messages (m ∷ ms) ps all = found_messages ms (settle ps m) (found_changed (after_message m.packet) ps m.path (λ p e. all_settled m.packet p) all)
