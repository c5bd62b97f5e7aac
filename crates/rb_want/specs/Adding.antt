-- What becomes of requests to which others are added in turn.
use Rattle.std.specs.Prelude.{◌≡◌, ◌<◌, ◌++◌, ◌∷◌, [], All, List, Bool, true, false, count_by, length, fold, nat_lt, if◌then◌else◌}
use Rattle.std.specs.List.{list_any}
use Rattle.rb_want_requests.specs.Requests.{is_new, is_same, is_to_same, may_be_added}
use Rattle.rb_want_requests.specs.Ends.{with_end}
use Rattle.rb_want_requests.specs.declared.content.Folders.{Folders}
use Rattle.rb_want_requests.specs.declared.reason.End.{End}
use Rattle.rb_want_requests.specs.declared.reason.PathEnd.{PathEnd}
use Rattle.rb_want_requests.specs.declared.reason.SearchReason.{SearchReason}
use Rattle.rb_want_requests.specs.declared.request.Request.{Request}
use Rattle.rb_want_requests.specs.declared.wanted.NextRequests.{NextRequests}

-- the request is added where it may be
abbrev pub with_request : Folders → List Request → Request → List Request
with_request folders requests r = if may_be_added folders requests r then requests ++ r ∷ [] else requests

-- the requests, and behind them each that is needed, in this order: once, if it is neither answered nor refused, while fewer than 30 go to its address
unfoldable pub with_needed : Folders → List Request → List Request → List Request
with_needed folders requests needed = fold (with_request folders) requests needed

-- each request that is needed, and that is neither answered nor refused, is asked for where fewer than 30 go to its address
abbrev pub EachIsAsked : Folders → List Request → List Request → Type 0
EachIsAsked folders needed requests =
    All (λ r. is_new folders r ≡ true → count_by (is_to_same r) requests < 30 → list_any (is_same r) requests ≡ true) needed

-- the ends, and behind them these
unfoldable pub with_ends : List End → List End → List End
with_ends ends more = ends ++ more

-- the ends of paths, and behind them each of these that isn't there already
unfoldable pub with_path_ends : List PathEnd → List PathEnd → List PathEnd
with_path_ends ends more = fold with_end ends more

-- what a client needs, why it is asked for, and why no more is
pub record Outcome : Type 0 where
  pub needed : List Request
  pub reasons : List SearchReason
  pub ends : List End

-- nothing is needed, and all is well
abbrev pub no_outcome : Outcome
no_outcome = record { needed = []; reasons = []; ends = [] }

-- no more is asked, and that is why
abbrev pub ended : End → Outcome
ended end = record { needed = []; reasons = []; ends = end ∷ [] }

-- what is asked for clients, why, and why no more is
pub record Told : Type 0 where
  pub requests : List Request
  pub reasons : List SearchReason
  pub ends : List End

-- what is wanted, without the folders and the ends of paths
abbrev pub told_of : NextRequests → Told
told_of w = record { requests = w.requests.items; reasons = w.reasons.items; ends = w.ends.items }

abbrev pub nothing_told : Told
nothing_told = record { requests = []; reasons = []; ends = [] }

-- the reasons, and behind them these where requests came
abbrev pub reasons_if : Bool → List SearchReason → List SearchReason → List SearchReason
reasons_if true reasons more = reasons ++ more
reasons_if false reasons more = reasons

-- one more client: its requests; why they are asked for, unless each of them was asked for already; and why no more is
unfoldable pub with_outcome : Folders → Told → Outcome → Told
with_outcome folders t o =
    record {
      requests = with_needed folders t.requests o.needed;
      reasons = reasons_if (nat_lt (length t.requests) (length (with_needed folders t.requests o.needed))) t.reasons o.reasons;
      ends = with_ends t.ends o.ends;
    }
