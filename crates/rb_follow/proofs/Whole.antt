-- A whole input: from the setup to the end.
use Rattle.std.proofs.Common.{◌≡◌, ℕ, List, [], ◌++◌, Bool, true, false, Option, Some, None, IfSome, Result, Ok, Err, ◌↔◌, refl, sym, subst, ◌∙◌}
use Rattle.std.proofs.lemmas.Bool.{true≢false}
use Rattle.std.proofs.lemmas.List.{append-nil}
use Rattle.std.specs.Io.KnownBytes.{Appends}
use Rattle.rb_base.specs.Sink.{AppendsBeginning}
use Rattle.rb_script_types.specs.Config.{Config}
use Rattle.rb_script_toml.specs.Faults.{Fault, ◌>>=◌, fault_view, Fails}
use Rattle.rb_script_toml.specs.declared.fault.Fault.{Fault as CodeFault}
use Rattle.rb_script_toml.specs.declared.fault.RunError.{RunError}
use Rattle.rb_script_toml.specs.declared.fault.RunError.TheVariants as errors
use Rattle.rb_core_model.specs.Config.{IsSetUp}
use Rattle.rb_follow.specs.declared.error.FollowError.{FollowError}
use Rattle.rb_follow.specs.declared.error.FollowError.TheVariants.{Run}
use Rattle.rb_follow.specs.declared.told.Form.{Form}
use Rattle.rb_follow.specs.Setups.{setup_of}
use Rattle.rb_follow.specs.Documents.{Document, documents}
use Rattle.rb_follow.specs.Followers.{Following, begun_with, beginning}
use Rattle.rb_follow.specs.Answers.{head_text, end_text}
use Rattle.rb_follow.specs.Journals.{outs}
use Rattle.rb_follow.specs.Headline.{Answered, answers_text, Told, BeginsTelling, IsFollowed, Follows, BeginsFollowing, GoesOn, BeginsGoingOn}
use Rattle.rb_follow.proofs.LawsLemmas.{answers_reports}
use Rattle.rb_follow.proofs.Telling.{stores_none, answered-none}
use Rattle.rb_text_report.proofs.Beginnings.{appends-then, beginning-first, beginning-then}

-- ---- the setup

-- the follower that a setup begins
pub record IsBegun (setup : List ℕ) (f : Following) : Type 0 where
  pub config : Config
  pub read : setup_of setup ≡ Ok config
  pub is : f ≡ begun_with config
  pub set_up : IsSetUp config

begun_by : (r : Result Config Fault) (f : Following) → (r >>= (λ c. Ok (begun_with c))) ≡ Ok f → (c : Config) × (r ≡ Ok c) × (f ≡ begun_with c)
begun_by (Ok c) f h = (c, refl, cc)
begun_by (Err e) f h = absurd cc

pub is_begun : (setup : List ℕ) (f : Following) → beginning setup ≡ Ok f → IsSetUp f.config → IsBegun setup f
unfolding beginning
is_begun setup f h s =
    let b = begun_by (setup_of setup) f h in record { config = b.0; read = b.1; is = b.2; set_up = subst (λ (x : Following). IsSetUp x.config) b.2 s }

refused_by : (r : Result Config Fault) (e : Fault) → (r >>= (λ c. Ok (begun_with c))) ≡ Err e → r ≡ Err e
refused_by (Ok c) e h = absurd cc
refused_by (Err x) e h = cc

refused_fault : (setup : List ℕ) (e : Fault) → beginning setup ≡ Err e → setup_of setup ≡ Err e
unfolding beginning
refused_fault setup e h = refused_by (setup_of setup) e h

abbrev ended : FollowError → Result (Unit {0}) FollowError
ended e = Err e

-- a setup's fault is that of the text
pub setup-fault : (setup : List ℕ) (e : RunError) (f : CodeFault) → Fails e (beginning setup) → ended (Run e) ≡ ended (Run (errors.Fault f)) → setup_of setup ≡ Err (fault_view f)
setup-fault setup (errors.Fault x) f h s = let same : x ≡ f = cc in subst (λ (y : CodeFault). setup_of setup ≡ Err (fault_view y)) same (refused_fault setup (fault_view x) h)
setup-fault setup errors.NoMemory f h s = absurd cc
setup-fault setup errors.Device f h s = absurd h

-- the device hasn't failed there
pub setup-device : (setup : List ℕ) (e : RunError) (has_failed : Bool) → Fails e (beginning setup) → has_failed ≡ false → (ended (Run e) ≡ ended (Run errors.Device)) ↔ (has_failed ≡ true)
setup-device setup (errors.Fault x) b h w = ((λ s. absurd cc), (λ t. absurd (true≢false (sym t ∙ w))))
setup-device setup errors.NoMemory b h w = ((λ s. absurd cc), (λ t. absurd (true≢false (sym t ∙ w))))
setup-device setup errors.Device b h w = absurd h

-- ---- what was followed

followed_by : (setup : List ℕ) (c : Config) (ds : List Document) (g : Following) → setup_of setup ≡ Ok c → IsSetUp c → (p : Answered (begun_with c) ds g) → IsFollowed setup ds c p.answers
followed_by setup c ds g read s p = record {
  read = read;
  turns = p.turns;
  last = g;
  answered = p.answered;
  kept = record { config = s; turns = p.right };
  reported = answers_reports (begun_with c) ds p.answers p.turns g p.answered;
}

pub follows : (form : Form) (setup : List ℕ) (f : Following) (known : Option (List ℕ)) (old mid last new : Option (List ℕ)) (before after : Option (List (List ℕ))) (g : Following) → IsBegun setup f
    → Appends old mid (head_text form f.config.version) → IfSome known (λ (bytes : List ℕ). Told form f (documents bytes) (outs mid before) (outs last after) g) → Appends last new (end_text form)
    → IfSome known (λ (bytes : List ℕ). Follows form setup bytes (outs old before) (outs new after))
follows form setup f None old mid last new before after g b h t e = tt
follows form setup f (Some bytes) old mid last new before after g b h t e =
    let c = b.config in
    let head : Appends old mid (head_text form c.version) = subst (λ (x : Following). Appends old mid (head_text form x.config.version)) b.is h in
    let told : Told form (begun_with c) (documents bytes) (outs mid before) (outs last after) g = subst (λ (x : Following). Told form x (documents bytes) (outs mid before) (outs last after) g) b.is t in
    record {
      config = c;
      answers = told.all.answers;
      followed = followed_by setup c (documents bytes) g b.read b.set_up told.all;
      stored = told.stored;
      written = appends-then old mid new (head_text form c.version) (answers_text form c told.all.answers ++ end_text form) head
          (appends-then mid last new (answers_text form c told.all.answers) (end_text form) told.written e);
    }

-- the first line failed
pub follows-head : (form : Form) (setup : List ℕ) (f : Following) (known : Option (List ℕ)) (old new : Option (List ℕ)) (before : Option (List (List ℕ))) → IsBegun setup f
    → AppendsBeginning old new (head_text form f.config.version) → IfSome known (λ (bytes : List ℕ). BeginsFollowing form setup bytes (outs old before) (outs new before))
follows-head form setup f None old new before b h = tt
follows-head form setup f (Some bytes) old new before b h =
    let c = b.config in
    record {
      config = c;
      first = [];
      later = documents bytes;
      are_first = refl;
      answers = [];
      followed = followed_by setup c [] (begun_with c) b.read b.set_up (answered-none (begun_with c));
      stored = stores_none before;
      begun = beginning-first old new (head_text form c.version) (answers_text form c [] ++ end_text form)
          (subst (λ (x : Following). AppendsBeginning old new (head_text form x.config.version)) b.is h);
    }

-- an answer failed, or the input
pub follows-begins : (form : Form) (setup : List ℕ) (f : Following) (known : Option (List ℕ)) (old mid new : Option (List ℕ)) (before after : Option (List (List ℕ))) → IsBegun setup f
    → Appends old mid (head_text form f.config.version) → IfSome known (λ (bytes : List ℕ). BeginsTelling form f (documents bytes) (outs mid before) (outs new after))
    → IfSome known (λ (bytes : List ℕ). BeginsFollowing form setup bytes (outs old before) (outs new after))
follows-begins form setup f None old mid new before after b h t = tt
follows-begins form setup f (Some bytes) old mid new before after b h t =
    let c = b.config in
    let head : Appends old mid (head_text form c.version) = subst (λ (x : Following). Appends old mid (head_text form x.config.version)) b.is h in
    let told : BeginsTelling form (begun_with c) (documents bytes) (outs mid before) (outs new after) = subst (λ (x : Following). BeginsTelling form x (documents bytes) (outs mid before) (outs new after)) b.is t in
    record {
      config = c;
      first = told.first;
      later = told.later;
      are_first = told.are_first;
      answers = told.all.answers;
      followed = followed_by setup c told.first told.last b.read b.set_up told.all;
      stored = told.stored;
      begun = beginning-then old mid new (head_text form c.version) (answers_text form c told.all.answers ++ end_text form) head
          (beginning-first mid new (answers_text form c told.all.answers) (end_text form) told.begun);
    }

-- the last line failed
pub follows-end : (form : Form) (setup : List ℕ) (f : Following) (known : Option (List ℕ)) (old mid last new : Option (List ℕ)) (before after : Option (List (List ℕ))) (g : Following) → IsBegun setup f
    → Appends old mid (head_text form f.config.version) → IfSome known (λ (bytes : List ℕ). Told form f (documents bytes) (outs mid before) (outs last after) g)
    → AppendsBeginning last new (end_text form) → IfSome known (λ (bytes : List ℕ). BeginsFollowing form setup bytes (outs old before) (outs new after))
follows-end form setup f None old mid last new before after g b h t e = tt
follows-end form setup f (Some bytes) old mid last new before after g b h t e =
    let c = b.config in
    let head : Appends old mid (head_text form c.version) = subst (λ (x : Following). Appends old mid (head_text form x.config.version)) b.is h in
    let told : Told form (begun_with c) (documents bytes) (outs mid before) (outs last after) g = subst (λ (x : Following). Told form x (documents bytes) (outs mid before) (outs last after) g) b.is t in
    record {
      config = c;
      first = documents bytes;
      later = [];
      are_first = sym (append-nil (documents bytes));
      answers = told.all.answers;
      followed = followed_by setup c (documents bytes) g b.read b.set_up told.all;
      stored = told.stored;
      begun = beginning-then old mid new (head_text form c.version) (answers_text form c told.all.answers ++ end_text form) head
          (beginning-then mid last new (answers_text form c told.all.answers) (end_text form) told.written e);
    }

-- ---- a run that goes on

pub goes-on : (form : Form) (setup : List ℕ) (f : Following) (known : Option (List ℕ)) (old mid last new : Option (List ℕ)) (before after : Option (List (List ℕ))) (g : Following)
    → setup_of setup ≡ Ok f.config → Appends old mid (head_text form f.config.version)
    → IfSome known (λ (bytes : List ℕ). Told form f (documents bytes) (outs mid before) (outs last after) g) → Appends last new (end_text form)
    → IfSome known (λ (bytes : List ℕ). GoesOn form setup bytes (outs old before) (outs new after))
goes-on form setup f None old mid last new before after g read h t e = tt
goes-on form setup f (Some bytes) old mid last new before after g read h t e = record {
  start = f;
  read = read;
  last = g;
  all = t.all;
  stored = t.stored;
  written = appends-then old mid new (head_text form f.config.version) (answers_text form f.config t.all.answers ++ end_text form) h
      (appends-then mid last new (answers_text form f.config t.all.answers) (end_text form) t.written e);
}

-- the first line failed
pub on-head : (form : Form) (setup : List ℕ) (f : Following) (known : Option (List ℕ)) (old new : Option (List ℕ)) (before : Option (List (List ℕ)))
    → setup_of setup ≡ Ok f.config → AppendsBeginning old new (head_text form f.config.version)
    → IfSome known (λ (bytes : List ℕ). BeginsGoingOn form setup bytes (outs old before) (outs new before))
on-head form setup f None old new before read h = tt
on-head form setup f (Some bytes) old new before read h = record {
  start = f;
  read = read;
  first = [];
  later = documents bytes;
  are_first = refl;
  last = f;
  all = answered-none f;
  stored = stores_none before;
  begun = beginning-first old new (head_text form f.config.version) (answers_text form f.config [] ++ end_text form) h;
}

-- an answer failed, or the input
pub on-begins : (form : Form) (setup : List ℕ) (f : Following) (known : Option (List ℕ)) (old mid new : Option (List ℕ)) (before after : Option (List (List ℕ)))
    → setup_of setup ≡ Ok f.config → Appends old mid (head_text form f.config.version)
    → IfSome known (λ (bytes : List ℕ). BeginsTelling form f (documents bytes) (outs mid before) (outs new after))
    → IfSome known (λ (bytes : List ℕ). BeginsGoingOn form setup bytes (outs old before) (outs new after))
on-begins form setup f None old mid new before after read h t = tt
on-begins form setup f (Some bytes) old mid new before after read h t = record {
  start = f;
  read = read;
  first = t.first;
  later = t.later;
  are_first = t.are_first;
  last = t.last;
  all = t.all;
  stored = t.stored;
  begun = beginning-then old mid new (head_text form f.config.version) (answers_text form f.config t.all.answers ++ end_text form) h
      (beginning-first mid new (answers_text form f.config t.all.answers) (end_text form) t.begun);
}

-- the last line failed
pub on-end : (form : Form) (setup : List ℕ) (f : Following) (known : Option (List ℕ)) (old mid last new : Option (List ℕ)) (before after : Option (List (List ℕ))) (g : Following)
    → setup_of setup ≡ Ok f.config → Appends old mid (head_text form f.config.version)
    → IfSome known (λ (bytes : List ℕ). Told form f (documents bytes) (outs mid before) (outs last after) g) → AppendsBeginning last new (end_text form)
    → IfSome known (λ (bytes : List ℕ). BeginsGoingOn form setup bytes (outs old before) (outs new after))
on-end form setup f None old mid last new before after g read h t e = tt
on-end form setup f (Some bytes) old mid last new before after g read h t e = record {
  start = f;
  read = read;
  first = documents bytes;
  later = [];
  are_first = sym (append-nil (documents bytes));
  last = g;
  all = t.all;
  stored = t.stored;
  begun = beginning-then old mid new (head_text form f.config.version) (answers_text form f.config t.all.answers ++ end_text form) h
      (beginning-then mid last new (answers_text form f.config t.all.answers) (end_text form) t.written e);
}
