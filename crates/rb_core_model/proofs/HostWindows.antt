-- What a window of a host leaves of the clients.
use Rattle.std.proofs.Common.{◌≡◌, ℕ, ◌≤◌, zero, suc, Bool, true, false, cond, eqb, List, [], ◌∷◌, map, Option, Some, None, refl, sym, ap, ◌∙◌, subst}
use Rattle.std.specs.Prelude.{unwrap_or}
use Rattle.std.specs.List.{slice_get, AllByRecursion}
use Rattle.std.proofs.lemmas.Option.{none-some, same_Some}
use Rattle.rb_base.specs.Window.{Span}
use Rattle.rb_script_types.specs.declared.config.ClientConfig.{ClientConfig}
use Rattle.rb_core_model.specs.Standing.{OpenBatch, ClientState, window_for, in_host_window}

pub config_in_host : (host : ℕ) (window : Span) (c : ClientState) → (in_host_window host window c).config ≡ c.config
config_in_host host window c = go (eqb c.config.host host)
  where
    go : (b : Bool) → (cond b (record c { window = Some window }) c).config ≡ c.config
    go true = refl
    go false = refl

pub batch_in_host : (host : ℕ) (window : Span) (c : ClientState) → (in_host_window host window c).batch ≡ c.batch
batch_in_host host window c = go (eqb c.config.host host)
  where
    go : (b : Bool) → (cond b (record c { window = Some window }) c).batch ≡ c.batch
    go true = refl
    go false = refl

-- what holds of a client with the window, and of the client, holds after it
pub in_host_by : (P : ClientState → Type 0) (host : ℕ) (window : Span) (c : ClientState) → P (record c { window = Some window }) → P c → P (in_host_window host window c)
in_host_by P host window c new old = go (eqb c.config.host host)
  where
    go : (b : Bool) → P (cond b (record c { window = Some window }) c)
    go true = new
    go false = old

-- the element at a place of a list that was changed whole
pub get_mapped : {X : Type 0} (f : X → X) (xs : List X) (i : ℕ) (y : X) → slice_get (map f xs) i ≡ Some y → (x : X) × (slice_get xs i ≡ Some x) × (f x ≡ y)
get_mapped f [] i y e = absurd (none-some y e)
get_mapped f (x ∷ xs) zero y e = (x, refl, same_Some (f x) y e)
get_mapped f (x ∷ xs) (suc i) y e = get_mapped f xs i y e

pub all_mapped : {X : Type 0} (P : X → Type 0) (f : X → X) → ((x : X) → P x → P (f x)) → (xs : List X) → AllByRecursion P xs → AllByRecursion P (map f xs)
all_mapped P f one [] all = tt
all_mapped P f one (x ∷ xs) all = (one x all.0, all_mapped P f one xs all.1)

pub same_mapped : {X Y : Type 0} (g : X → Y) (f : X → X) → ((x : X) → g (f x) ≡ g x) → (xs : List X) → map g (map f xs) ≡ map g xs
same_mapped g f same [] = refl
same_mapped g f same (x ∷ xs) = (λ i. same x i ∷ same_mapped g f same xs i)

-- a client's window doesn't end before it begins, where neither the common one nor that of its host does
pub window_ends : (window : Span) (c : ClientState) → window.from ≤ window.until → ((w : Span) → c.window ≡ Some w → w.from ≤ w.until) → (window_for window c).from ≤ (window_for window c).until
window_ends window c common own = go c.window refl
  where
    go : (o : Option Span) → c.window ≡ o → (unwrap_or o window).from ≤ (unwrap_or o window).until
    go None e = common
    go (Some w) e = own w e
