-- The window of the first client, by its view.
use Rattle.std.proofs.Common.{◌≡◌, ◌⊎◌, ℕ, ◌<◌, ◌≤◌, not, List, length, get_or, Option, Some, None, is_none, slice_get, nat_lt, refl, sym, ap, ◌∙◌, inl, inr}
use Rattle.std.specs.Option.{option_map, option_and_then}
use Rattle.std.proofs.lemmas.Bool.{lt-ltb}
use Rattle.std.proofs.lemmas.Option.{none-some, slice_get_cases}
use Rattle.rb_core_model.specs.Machine.{State, client_view, client_view_refusal, job_of}
use Rattle.rb_core_model.specs.Refusal.{refused_if}
use Rattle.rb_plan_client.specs.Draft.{Job}
use Rattle.rb_script_types.specs.declared.refusal.Refusal.{Refusal}
use Rattle.rb_script_types.specs.declared.refusal.Refusal.TheVariants.{UnknownObject, OutOfOrder}
use Rattle.rb_messages.specs.Shell.{window_in}

unshown : {X Y W : Type 0} (xs : List X) (i : ℕ) (w : Option W) (f : W → X → Y) (r : Refusal)
    → refused_if (not (nat_lt i (length xs))) UnknownObject (refused_if (is_none w) OutOfOrder None) ≡ Some r → option_and_then (λ v. option_map (f v) (slice_get xs i)) w ≡ None
unshown xs i None f r e = refl
unshown {X} xs i (Some v) f r e = go (slice_get_cases xs i).1
  where
    go : ((x : X) × (i < length xs) × (slice_get xs i ≡ Some x) × (get_or xs i x ≡ x)) ⊎ ((length xs ≤ i) × (slice_get xs i ≡ None)) → option_map (f v) (slice_get xs i) ≡ None
    go (inl found) = absurd (none-some r (sym (ap (λ b. refused_if (not b) UnknownObject None) (lt-ltb i (length xs) found.1)) ∙ e))
    go (inr past) = ap (option_map (f v)) past.1

pub refused_window : (s : State) (r : Refusal) → client_view_refusal s 0 ≡ Some r → window_in s ≡ None
refused_window s r e = ap (option_map (λ (job : Job). job.task.window)) (unshown s.standing.clients 0 s.standing.window (job_of s 0) r e)

pub shown_window : (s : State) (job : Job) → client_view s 0 ≡ Some job → window_in s ≡ Some job.task.window
shown_window s job e = ap (option_map (λ (job : Job). job.task.window)) e
