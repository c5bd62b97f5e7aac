-- What is asked for isn't there.
use Rattle.std.proofs.Common.{◌≡◌, List, Bool, true, false, ◌&&◌, ◌||◌, get_or, Option, Some, None, refl, sym}
use Rattle.std.specs.Prelude.{not}
use Rattle.std.specs.List.{list_any}
use Rattle.std.proofs.lemmas.Bool.{true≢false}
use Rattle.std.proofs.lemmas.List.Folds.{list_any_none}
use Rattle.rb_want_requests.specs.Answered.{has_part, is_answered}
use Rattle.rb_want_requests.specs.Lines.{contents_of}
use Rattle.rb_want_requests.specs.Requests.{folder_of, is_named, is_new_at}
use Rattle.rb_want_requests.specs.declared.content.Content.{Content}
use Rattle.rb_want_requests.specs.declared.content.Folder.{Folder}
use Rattle.rb_want_requests.specs.declared.request.Query.{Query}
use Rattle.rb_want_requests.specs.declared.request.Query.TheVariants as queries
use Rattle.rb_want_requests.specs.Asking.{NoneOverwritten, is_asked_by}

neither : (a b : Bool) → a || b ≡ false → a ≡ false
neither true b is = is
neither false b is = refl

none_any : (p : Content → Bool) (there : List Content) → ((c : Content) → p c ≡ false) → list_any p there ≡ false
none_any p there none = list_any_none p there (λ k d small. none (get_or there k d))

-- what isn't answered isn't there
unanswered : (there : List Content) (q : Query) → is_answered there q ≡ false → list_any (is_asked_by q) there ≡ false
unfolding has_part
unanswered there queries.ClientState is = is
unanswered there (queries.ConsensusStates page) is = neither _ _ is
unanswered there queries.Status is = is
unanswered there (queries.Commit height) is = is
unanswered there (queries.Validators height page size) is = neither _ _ is
unanswered there (queries.Commitments page) is = neither _ _ is
unanswered there (queries.Unreceived part) is = neither _ _ is
unanswered there (queries.Acknowledgements part) is = neither _ _ is
unanswered there (queries.Sent sequence) is = none_any (is_asked_by (queries.Sent sequence)) there (λ c. refl)
unanswered there (queries.Received sequence) is = none_any (is_asked_by (queries.Received sequence)) there (λ c. refl)
unanswered there (queries.AckWritten sequence) is = none_any (is_asked_by (queries.AckWritten sequence)) there (λ c. refl)

first : (a b c : Bool) → not a && not b && not c ≡ true → a ≡ false
first true b c is = absurd (true≢false (sym is))
first false b c is = refl

at : (o : Option Folder) (q : Query) → is_new_at o q ≡ true → list_any (is_asked_by q) (contents_of o) ≡ false
at None q is = refl
at (Some f) q is =
    unanswered f.contents.items q
    (first (is_answered f.contents.items q) (is_named f.refused.items q) (is_named f.searched.items q) is)

pub none_overwritten : NoneOverwritten
none_overwritten folders r new = at (folder_of folders r.owner) r.query new
