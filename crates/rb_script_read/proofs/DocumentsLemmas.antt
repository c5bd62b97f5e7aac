-- Turns that are documents of their own.
use Rattle.std.proofs.Common.{◌≡◌, ◌≢◌, ℕ, List, [], ◌∷◌, length, Result, Ok, Err, IfOk, refl, sym, ap, subst}
use Rattle.std.specs.declared.alloc.Global.{Global}
use Rattle.rb_script_types.specs.Config.{Config}
use Rattle.rb_script_types.specs.Script.{Turn, IsReadTurn, turn_view}
use Rattle.rb_script_toml.specs.declared.fault.RunError.{RunError}
use Rattle.rb_script_toml.specs.declared.fault.RunError.TheVariants as errors
use Rattle.rb_script_toml.specs.Faults.{Fault, Fails, Gives}
use Rattle.rb_script_toml.specs.Fields.{Section}
use Rattle.rb_script_read.specs.declared.turn.NextTurn.{NextTurn}
use Rattle.rb_script_read.specs.Turns.{Reading, turn}
use Rattle.rb_script_read.specs.NextTurns.{path_in_document, in_document, IsInDocument, next_turn_view}
use Rattle.rb_script_read.proofs.Forms.{turn-form}

-- a path that isn't empty stays
pub path_in_document-kept : (path : List ℕ) → path ≢ [] → path_in_document path ≡ path
path_in_document-kept [] h = absurd (h refl)
path_in_document-kept (b ∷ bs) h = refl

pub fails-in_document : {A : Type 0} (e f : RunError) (read : Result A Fault) → IsInDocument e f → Fails e read → Fails f (in_document read)
fails-in_document (errors.Fault x) (errors.Fault y) read p h = rw h (ap Err (sym p))
fails-in_document (errors.Fault x) errors.NoMemory read p h = tt
fails-in_document (errors.Fault x) errors.Device read p h = absurd p
fails-in_document errors.NoMemory f read p h = subst (λ g. Fails g (in_document read)) (sym p) tt
fails-in_document errors.Device f read p h = absurd h

pub in_document-gives : {A : Type 0} (read : Result A Fault) (x : A) → read ≡ Ok x → in_document read ≡ Ok x
in_document-gives read x h = rw h refl

in_document-read : {A : Type 0} (read : Result A Fault) (x : A) → in_document read ≡ Ok x → read ≡ Ok x
in_document-read (Ok y) x h = h
in_document-read (Err e) x h = absurd cc

module _ (c : Config) (r : Reading) where
  abbrev IsRead : Turn Global → Type 0
  IsRead t = IsReadTurn (length c.chains) (length c.clients) (length c.paths) t

  -- every turn that is read keeps what turns keep
  pub next-form : (s : Section) (result : Result NextTurn RunError) → Gives (next_turn_view r) result (in_document (turn c r s)) → IfOk result (λ n. IsRead (turn_view n.turn))
  next-form s (Ok n) h = (turn-form c r s (next_turn_view r n) (in_document-read (turn c r s) (next_turn_view r n) h)).turn
  next-form s (Err e) h = tt

pub ruleset documents = (path_in_document-kept, fails-in_document, in_document-gives)
