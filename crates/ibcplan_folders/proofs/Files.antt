-- Verdicts are in the file of their name, commits in any.
use Rattle.std.proofs.Common.{◌≡◌, ℕ, List, Bool, true, false, if◌then◌else◌, refl, sym, ◌∙◌}
use Rattle.std.specs.Prelude.{not, ◌&&◌}
use Rattle.std.specs.Str.{bytes_eq}
use Rattle.std.proofs.lemmas.Bool.{true≢false}
use Rattle.std.proofs.lemmas.Slice.Eq.{bytes_eq-Decides}
use Rattle.rb_import_answers.specs.Answers.{Told, is_verified, other, told_in, verdicts_file}
use Rattle.rb_import_answers.specs.declared.query.OtherQuery.{OtherQuery}
use Rattle.rb_import_check.specs.Saved.{is_commit}

named : (verdicts same : Bool) (t : Told) → is_verified t ≡ verdicts → is_verified (if verdicts && not same then other OtherQuery.Verdicts else t) ≡ true → same ≡ true
named verdicts true t is has = refl
named true false t is has = absurd (true≢false (sym has))
named false false t is has = absurd (true≢false (sym has ∙ is))

pub verdicts_named : (name : List ℕ) (t : Told) → is_verified (told_in name t) ≡ true → name ≡ verdicts_file
verdicts_named name t has = (bytes_eq-Decides name verdicts_file).0 (named (is_verified t) (bytes_eq name verdicts_file) t refl has)

of_commit : (b : Bool) (t : Told) → is_commit (if b then other OtherQuery.Verdicts else t) ≡ true → is_commit t ≡ true
of_commit true t is = absurd (true≢false (sym is))
of_commit false t is = is

-- a commit is one in any file
pub commit_in : (name : List ℕ) (t : Told) → is_commit (told_in name t) ≡ true → is_commit t ≡ true
commit_in name t is = of_commit (is_verified t && not (bytes_eq name verdicts_file)) t is

pub ruleset naming = (verdicts_named, commit_in)
