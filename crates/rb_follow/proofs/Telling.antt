-- Answers to documents, one after the other.
use Rattle.std.proofs.Common.{◌≡◌, ℕ, ◌+◌, Bool, true, false, List, [], ◌∷◌, ◌++◌, map, All, Option, Some, None, Result, Ok, Err, IfOk, OnOk, OnErr, refl, sym, ap, subst, ◌∙◌, append_assoc, arith, if◌then◌else◌}
use Rattle.std.proofs.lemmas.List.{append-nil}
use Rattle.std.proofs.lemmas.List.Elements.{All-cons, All-append}
use Rattle.std.specs.Io.KnownBytes.{Appends}
use Rattle.std.specs.declared.alloc.Global.{Global}
use Rattle.rb_base.specs.Sink.{AppendsBeginning}
use Rattle.rb_core_model.specs.Forgetting.{floors_of, rest_at_floors}
use Rattle.rb_script_types.specs.Config.{Config}
use Rattle.rb_script_types.specs.Script.{Turn}
use Rattle.rb_script_config.specs.Paths.{path_ids}
use Rattle.rb_script_read.specs.Turns.{Reading}
use Rattle.rb_super_turn.specs.AsEvents.{turn_as_events}
use Rattle.rb_super_turn.specs.Report.{TurnReport}
use Rattle.rb_super_turn.specs.Script.{IsTurn}
use Rattle.rb_super_turn.specs.Turns.{after_turn}
use Rattle.rb_text_report.proofs.Beginnings.{appends-then, appends-none, beginning-none, beginning-then}
use Rattle.rb_follow.specs.declared.told.Form.{Form}
use Rattle.rb_follow.specs.Documents.{Document}
use Rattle.rb_follow.specs.Followers.{Following, Answer, planned, refused, Refusal, most_events, emptied, tidied, after_report, turn_in, IsAnswerFor, IsRight}
use Rattle.rb_follow.specs.Tidying.{forgets, raised}
use Rattle.rb_follow.specs.Answers.{answer_text}
use Rattle.rb_follow.specs.Journals.{Outs, StoresAll, whole_of, accepted}
use Rattle.rb_follow.specs.Headline.{AreAnswers, Answered, answers_text, Told, BeginsTelling}

-- ---- answers

-- a follower keeps what it is set up with
tidied-config : (f : Following) → (tidied f).config ≡ f.config
tidied-config f = go (forgets f.config.version f.standing)
  where
    go : (b : Bool) → (if b then emptied f else f).config ≡ f.config
    go true = refl
    go false = refl

after-config : (f : Following) (x : Turn Global × Reading) (r : TurnReport) → (after_report f x r).config ≡ f.config
after-config f x r =
    tidied-config (record f { turns = f.turns + 1; reading = x.1; events = f.events + most_events f.config x.0; standing = after_turn f.standing (turn_as_events x.0) r })

pub answers-config : (f : Following) (ds : List Document) (answers : List Answer) (ts : List (Turn Global)) (g : Following)
    → AreAnswers f ds answers ts g → g.config ≡ f.config
answers-config f [] [] [] g h = ap (λ (x : Following). x.config) (sym h)
answers-config f [] [] (t ∷ ts) g h = absurd h
answers-config f [] (a ∷ rest) ts g h = absurd h
answers-config f (d ∷ ds) [] ts g h = absurd h
answers-config f (d ∷ ds) (planned number r ∷ rest) [] g h = absurd h
answers-config f (d ∷ ds) (planned number r ∷ rest) (t ∷ ts) g h = answers-config (after_report f (t, h.0) r) ds rest ts g h.4 ∙ after-config f (t, h.0) r
answers-config f (d ∷ ds) (refused fault ∷ rest) ts g h = answers-config f ds rest ts g h.1

-- answers to more documents
pub answers-then : (f : Following) (ds : List Document) (answers : List Answer) (ts : List (Turn Global)) (g : Following)
    (es : List Document) (more : List Answer) (us : List (Turn Global)) (k : Following)
    → AreAnswers f ds answers ts g → AreAnswers g es more us k → AreAnswers f (ds ++ es) (answers ++ more) (ts ++ us) k
answers-then f [] [] [] g es more us k h p = subst (λ x. AreAnswers x es more us k) (sym h) p
answers-then f [] [] (t ∷ ts) g es more us k h p = absurd h
answers-then f [] (a ∷ rest) ts g es more us k h p = absurd h
answers-then f (d ∷ ds) [] ts g es more us k h p = absurd h
answers-then f (d ∷ ds) (planned number r ∷ rest) [] g es more us k h p = absurd h
answers-then f (d ∷ ds) (planned number r ∷ rest) (t ∷ ts) g es more us k h p =
    (h.0, h.1, h.2, h.3, answers-then (after_report f (t, h.0) r) ds rest ts g es more us k h.4 p)
answers-then f (d ∷ ds) (refused fault ∷ rest) ts g es more us k h p = (h.0, answers-then f ds rest ts g es more us k h.1 p)

pub answers_text-then : (form : Form) (c : Config) (answers more : List Answer) → answers_text form c (answers ++ more) ≡ answers_text form c answers ++ answers_text form c more
answers_text-then form c [] more = refl
answers_text-then form c (a ∷ rest) more = ap (λ text. answer_text form c.version c.chains (path_ids c.paths) a ++ text) (answers_text-then form c rest more) ∙ sym (append_assoc (answer_text form c.version c.chains (path_ids c.paths) a) (answers_text form c rest) (answers_text form c more))

pub as_events-then : (ts us : List (Turn Global)) → map turn_as_events (ts ++ us) ≡ map turn_as_events ts ++ map turn_as_events us
as_events-then [] us = refl
as_events-then (t ∷ ts) us = ap (λ rest. turn_as_events t ∷ rest) (as_events-then ts us)

pub none_right : (c : Config) → All (IsTurn c) []
none_right c k d lt = absurd (omega arith)

abbrev pub answered-none : (f : Following) → Answered f [] f
answered-none f = record { answers = []; turns = []; answered = refl; right = none_right f.config }

abbrev pub answered-then : (f : Following) (ds es : List Document) (g k : Following) → Answered f ds g → Answered g es k → Answered f (ds ++ es) k
answered-then f ds es g k p q = record {
  answers = p.answers ++ q.answers;
  turns = p.turns ++ q.turns;
  answered = answers-then f ds p.answers p.turns g es q.answers q.turns k p.answered q.answered;
  right = subst (All (IsTurn f.config)) (sym (as_events-then p.turns q.turns))
      (All-append (IsTurn f.config) (map turn_as_events p.turns) (map turn_as_events q.turns) p.right
      (subst (λ (c : Config). All (IsTurn c) (map turn_as_events q.turns)) (answers-config f ds p.answers p.turns g p.answered) q.right));
}

-- ---- what a journal has stored

pub stores_none : (old : Option (List (List ℕ))) → StoresAll old old []
stores_none None = tt
stores_none (Some before) = ap Some (sym (append-nil before))

pub stores-then : (old mid new : Option (List (List ℕ))) (a b : List (List ℕ)) → StoresAll old mid a → StoresAll mid new b → StoresAll old new (a ++ b)
stores-then None mid new a b p q = tt
stores-then (Some before) mid new a b p q =
    subst (λ (m : Option (List (List ℕ))). StoresAll m new b) p q ∙ ap Some (append_assoc before a b)

pub accepted-then : (f : Following) (ds : List Document) (answers : List Answer) (ts : List (Turn Global)) (g : Following) (es : List Document) (more : List Answer)
    → AreAnswers f ds answers ts g → accepted (ds ++ es) (answers ++ more) ≡ accepted ds answers ++ accepted es more
accepted-then f [] [] [] g es more h = refl
accepted-then f [] [] (t ∷ ts) g es more h = absurd h
accepted-then f [] (a ∷ rest) ts g es more h = absurd h
accepted-then f (d ∷ ds) [] ts g es more h = absurd h
accepted-then f (d ∷ ds) (planned number r ∷ rest) [] g es more h = absurd h
accepted-then f (d ∷ ds) (planned number r ∷ rest) (t ∷ ts) g es more h =
    ap (λ (xs : List (List ℕ)). whole_of d ++ xs) (accepted-then (after_report f (t, h.0) r) ds rest ts g es more h.4)
    ∙ sym (append_assoc (whole_of d) (accepted ds rest) (accepted es more))
accepted-then f (d ∷ ds) (refused fault ∷ rest) ts g es more h = accepted-then f ds rest ts g es more h.1

-- ---- one answer

-- the answer to one document, and its text
pub record IsOne (form : Form) (f : Following) (d : Document) (a : Answer) (g : Following) : Type 0 where
  pub all : Answered f (d ∷ []) g
  pub one : all.answers ≡ a ∷ []
  pub text : answers_text form f.config all.answers ≡ answer_text form g.config.version g.config.chains (path_ids g.config.paths) a

pub one_by : (form : Form) (f : Following) (d : Document) (r : Result (Turn Global × Reading) Refusal) (a : Answer) (g : Following) → turn_in f d ≡ r → IsAnswerFor f r a g → IsRight f r
    → IsOne form f d a g
one_by form f d (Ok x) (planned number report) g e h right = record {
  all = record {
    answers = planned number report ∷ [];
    turns = x.0 ∷ [];
    answered = (x.1, e, h.0, h.1, sym h.2);
    right = All-cons (IsTurn f.config) (turn_as_events x.0) [] right (none_right f.config);
  };
  one = refl;
  text =
      append-nil _
      ∙ ap (λ (c : Config). answer_text form c.version c.chains (path_ids c.paths) (planned number report)) (sym (after-config f x report) ∙ ap (λ (y : Following). y.config) (sym h.2));
}
one_by form f d (Ok x) (refused fault) g e h right = absurd h
one_by form f d (Err x) (planned number report) g e h right = absurd h
one_by form f d (Err x) (refused fault) g e h right = record {
  all = record {
    answers = refused fault ∷ [];
    turns = [];
    answered = (e ∙ ap Err (sym h.0), sym h.1);
    right = none_right f.config;
  };
  one = refl;
  text = append-nil _ ∙ ap (λ (y : Following). answer_text form y.config.version y.config.chains (path_ids y.config.paths) (refused fault)) (sym h.1);
}

stored-one : (form : Form) (f : Following) (d : Document) (a : Answer) (g : Following) (one : IsOne form f d a g) (old new : Outs)
    → StoresAll old.stored new.stored (accepted (d ∷ []) (a ∷ [])) → StoresAll old.stored new.stored (accepted (d ∷ []) one.all.answers)
stored-one form f d a g one old new s = subst (λ (xs : List Answer). StoresAll old.stored new.stored (accepted (d ∷ []) xs)) (sym one.one) s

pub told-one : (form : Form) (f : Following) (d : Document) (a : Answer) (g : Following) (old new : Outs)
    → IsAnswerFor f (turn_in f d) a g → IsRight f (turn_in f d) → StoresAll old.stored new.stored (accepted (d ∷ []) (a ∷ []))
    → Appends old.taken new.taken (answer_text form g.config.version g.config.chains (path_ids g.config.paths) a)
    → Told form f (d ∷ []) old new g
told-one form f d a g old new h right s w =
    let one = one_by form f d (turn_in f d) a g refl h right in
    record { all = one.all; stored = stored-one form f d a g one old new s; written = subst (Appends old.taken new.taken) (sym one.text) w }

pub begins-one : (form : Form) (f : Following) (d : Document) (a : Answer) (g : Following) (old new : Outs)
    → IsAnswerFor f (turn_in f d) a g → IsRight f (turn_in f d) → StoresAll old.stored new.stored (accepted (d ∷ []) (a ∷ []))
    → AppendsBeginning old.taken new.taken (answer_text form g.config.version g.config.chains (path_ids g.config.paths) a)
    → BeginsTelling form f (d ∷ []) old new
begins-one form f d a g old new h right s w =
    let one = one_by form f d (turn_in f d) a g refl h right in
    record {
      first = d ∷ [];
      later = [];
      are_first = refl;
      last = g;
      all = one.all;
      stored = stored-one form f d a g one old new s;
      begun = subst (AppendsBeginning old.taken new.taken) (sym one.text) w;
    }

-- ---- several

pub told-none : (form : Form) (f : Following) (old : Outs) → Told form f [] old old f
told-none form f old = record { all = answered-none f; stored = stores_none old.stored; written = appends-none old.taken }

pub told-then : (form : Form) (f : Following) (ds es : List Document) (old mid new : Outs) (g k : Following)
    → Told form f ds old mid g → Told form g es mid new k → Told form f (ds ++ es) old new k
told-then form f ds es old mid new g k p q = record {
  all = answered-then f ds es g k p.all q.all;
  stored = subst (StoresAll old.stored new.stored) (sym (accepted-then f ds p.all.answers p.all.turns g es q.all.answers p.all.answered))
      (stores-then old.stored mid.stored new.stored (accepted ds p.all.answers) (accepted es q.all.answers) p.stored q.stored);
  written = subst (Appends old.taken new.taken) (sym (answers_text-then form f.config p.all.answers q.all.answers))
      (appends-then old.taken mid.taken new.taken (answers_text form f.config p.all.answers) (answers_text form f.config q.all.answers) p.written
      (subst (λ (c : Config). Appends mid.taken new.taken (answers_text form c q.all.answers)) (answers-config f ds p.all.answers p.all.turns g p.all.answered) q.written));
}

pub begins-nothing : (form : Form) (f : Following) (ds : List Document) (old : Outs) → BeginsTelling form f ds old old
begins-nothing form f ds old = record {
  first = [];
  later = ds;
  are_first = refl;
  last = f;
  all = answered-none f;
  stored = stores_none old.stored;
  begun = beginning-none old.taken [];
}

pub begins-later : (form : Form) (f : Following) (ds es : List Document) (old new : Outs) → BeginsTelling form f ds old new → BeginsTelling form f (ds ++ es) old new
begins-later form f ds es old new b = record {
  first = b.first;
  later = b.later ++ es;
  are_first = ap (λ (xs : List Document). xs ++ es) b.are_first ∙ append_assoc b.first b.later es;
  last = b.last;
  all = b.all;
  stored = b.stored;
  begun = b.begun;
}

pub begins-after : (form : Form) (f : Following) (ds es : List Document) (old mid new : Outs) (g : Following)
    → Told form f ds old mid g → BeginsTelling form g es mid new → BeginsTelling form f (ds ++ es) old new
begins-after form f ds es old mid new g p b = record {
  first = ds ++ b.first;
  later = b.later;
  are_first = ap (λ (xs : List Document). ds ++ xs) b.are_first ∙ sym (append_assoc ds b.first b.later);
  last = b.last;
  all = answered-then f ds b.first g b.last p.all b.all;
  stored = subst (StoresAll old.stored new.stored) (sym (accepted-then f ds p.all.answers p.all.turns g b.first b.all.answers p.all.answered))
      (stores-then old.stored mid.stored new.stored (accepted ds p.all.answers) (accepted b.first b.all.answers) p.stored b.stored);
  begun = subst (AppendsBeginning old.taken new.taken) (sym (answers_text-then form f.config p.all.answers b.all.answers))
      (beginning-then old.taken mid.taken new.taken (answers_text form f.config p.all.answers) (answers_text form f.config b.all.answers) p.written
      (subst (λ (c : Config). AppendsBeginning mid.taken new.taken (answers_text form c b.all.answers)) (answers-config f ds p.all.answers p.all.turns g p.all.answered) b.begun));
}

-- all that was told is a beginning
pub begins-told : (form : Form) (f : Following) (ds es : List Document) (old new : Outs) (g : Following)
    → Told form f ds old new g → BeginsTelling form f (ds ++ es) old new
begins-told form f ds es old new g p = begins-after form f ds es old new new g p (begins-nothing form g es new)

-- said of an error
pub on_err : {T E P : Type 0} (r : Result T E) → P → OnErr r P
on_err (Ok x) p = tt
on_err (Err e) p = p

-- ---- what was told of an answer

pub told-tell : {X E : Type 0} (see : X → Following) (form : Form) (f : Following) (d : Document) (a : Answer) (k : X) (old new : Outs) (r : Result X E)
    → IsAnswerFor f (turn_in f d) a (see k) → IsRight f (turn_in f d) → StoresAll old.stored new.stored (accepted (d ∷ []) (a ∷ [])) → IfOk r (λ g. g ≡ k)
    → OnOk r (Appends old.taken new.taken (answer_text form (see k).config.version (see k).config.chains (path_ids (see k).config.paths) a)) → IfOk r (λ g. Told form f (d ∷ []) old new (see g))
told-tell see form f d a k old new (Ok g) h right stored s w = subst (λ x. Told form f (d ∷ []) old new (see x)) (sym s) (told-one form f d a (see k) old new h right stored w)
told-tell see form f d a k old new (Err e) h right stored s w = tt

pub begins-tell : {X E : Type 0} (form : Form) (f : Following) (d : Document) (a : Answer) (k : Following) (old new : Outs) (r : Result X E)
    → IsAnswerFor f (turn_in f d) a k → IsRight f (turn_in f d) → StoresAll old.stored new.stored (accepted (d ∷ []) (a ∷ []))
    → OnErr r (AppendsBeginning old.taken new.taken (answer_text form k.config.version k.config.chains (path_ids k.config.paths) a)) → OnErr r (BeginsTelling form f (d ∷ []) old new)
begins-tell form f d a k old new (Ok g) h right stored w = tt
begins-tell form f d a k old new (Err e) h right stored w = begins-one form f d a k old new h right stored w

-- of as many documents as are told of
pub told-of : {X E : Type 0} (see : X → Following) (form : Form) (f : Following) (ds es : List Document) (old new : Outs) (r : Result X E) → ds ≡ es
    → IfOk r (λ g. Told form f ds old new (see g)) → IfOk r (λ g. Told form f es old new (see g))
told-of see form f ds es old new r e h = subst (λ (xs : List Document). IfOk r (λ g. Told form f xs old new (see g))) e h

pub begins-told-of : {X E : Type 0} (form : Form) (f : Following) (ds es : List Document) (old new : Outs) (r : Result X E) → ds ≡ es
    → OnErr r (BeginsTelling form f ds old new) → OnErr r (BeginsTelling form f es old new)
begins-told-of form f ds es old new r e h = subst (λ (xs : List Document). OnErr r (BeginsTelling form f xs old new)) e h
