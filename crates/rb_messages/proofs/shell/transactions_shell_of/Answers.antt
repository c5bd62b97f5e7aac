use Rattle.std.proofs.Common.{◌≡◌, ◌++◌, ◌∙◌, ℕ, List, ap}
use Rattle.rb_script_types.specs.Config.{Config}
use Rattle.rb_core.specs.Core.{state_in}
use Rattle.rb_messages.specs.Shell.{body_text, window_in, window_text}
use Rattle.rb_messages.specs.declared.shell.TheConstants.{TRANSACTIONS_HEAD}
use Rattle.rb_messages.proofs.shell.transactions_shell_of.Goals as goal

behind : (text made head window : List ℕ) (body : List (List ℕ) → List ℕ) (chains all : List (List ℕ)) → text ≡ made ++ body chains → made ≡ head ++ window → chains ≡ all
    → text ≡ head ++ window ++ body all
behind text made head window body chains all second first is = second ∙ ap (λ t. t ++ body chains) first ∙ ap (λ xs. head ++ window ++ body xs) is

pub returns : goal.returns
returns c =
    behind _ _ TRANSACTIONS_HEAD.now (window_text (window_in (state_in c.args.relayer.now))) (λ xs. body_text xs c.args.senders.now c.args.files.now c.args.updates.now c.args.batches.now) _ _ c.in_ok-push_body.ensures c.in_ok-text.ensures
    (c.as_slice-chains.ensures.value ∙ ap (λ (x : Config). x.chains) c.config.ensures.value)
