-- What the text of a script of answers begins with: who verified signatures.
use Rattle.std.specs.Prelude.{◌≡◌, ◌⊎◌, ℕ, List, [], ◌∷◌, ◌++◌, All, Bool, true, false, if◌then◌else◌, codes, count_by, length, sum_by, string_bytes}
use Rattle.std.specs.Fmt.{decimal}
use Rattle.std.specs.List.{flat_map, list_any}
use Rattle.std.specs.Str.{chars}
use Rattle.rb_import_answers.specs.Said.{IsPlain, plain_text}
use Rattle.rb_import_answers.specs.declared.verdicts.Verdicts.{Verdicts}
use Rattle.rb_import_check.specs.declared.chain.Commit.{Commit}
use Rattle.rb_import_check.specs.declared.chain.SeenChain.{SeenChain}
use Rattle.rb_import_check.specs.declared.saved.SavedAnswers.{SavedAnswers}
use Rattle.rb_import_check.specs.Verdicts.{has_verdicts, verdicts_of}
use Rattle.rb_import_merge.specs.declared.seen.SeenSetup.{SeenSetup}
use Rattle.rb_import.specs.Tallies.{bad_votes, capped, good_votes, is_verified, unchecked_votes}
use Rattle.rb_import.specs.Texts.{heading}

-- the line where no answer holds verdicts
abbrev pub warning : List ℕ
warning = codes "# Signatures were not verified: headers and votes stand as the nodes gave them." ++ 10 ∷ []

-- the line with these words on who verified signatures
abbrev pub credit : List ℕ → List ℕ
credit words = codes "# signatures: " ++ words ++ 10 ∷ []

-- whether answers on a chain hold verdicts
abbrev pub hold_verdicts : SavedAnswers → Bool
hold_verdicts answers = list_any (λ saved. has_verdicts saved.items) answers.chains.items

-- who verified the first verdicts
abbrev pub verifier_in : List Verdicts → List ℕ
verifier_in [] = codes "nobody"
verifier_in (v ∷ others) = string_bytes v.verifier

-- who verified the first of the chains that have verdicts
abbrev pub verifier_of : SavedAnswers → List ℕ
verifier_of answers = verifier_in (flat_map (λ saved. verdicts_of saved.items) answers.chains.items)

-- the commits that were seen, chain by chain
abbrev pub seen_commits : SeenSetup → List Commit
seen_commits seen = flat_map (λ (chain : SeenChain). chain.commits.items) seen.chains.items

-- so many commits and verified ones, good, bad and unchecked votes, and who verified them, in words
abbrev pub words_with : ℕ → ℕ → ℕ → ℕ → ℕ → List ℕ → List ℕ
words_with commits verified good bad unchecked verifier =
    decimal verified ++ codes " of " ++ decimal commits ++ codes " commits verified: " ++ decimal good ++ codes " good, " ++ decimal bad ++ codes " bad, "
    ++ decimal unchecked ++ codes " not checkable; by " ++ verifier

-- how many of these commits were verified, how many of their votes are good, bad and not checkable, and who verified them, in words
unfoldable pub words_on : List Commit → List ℕ → List ℕ
words_on commits verifier =
    words_with (capped (length commits)) (capped (count_by is_verified commits)) (capped (sum_by good_votes commits)) (capped (sum_by bad_votes commits))
    (capped (sum_by unchecked_votes commits)) verifier

-- the words on the commits that were seen, as much of them as the line shows
unfoldable pub words_of : SavedAnswers → SeenSetup → List ℕ
words_of answers seen = plain_text (chars (words_on (seen_commits seen) (verifier_of answers)))

-- the line that says who verified signatures where there are verdicts, and the warning where there are none
unfoldable pub opening_of : SavedAnswers → SeenSetup → List ℕ
opening_of answers seen = if hold_verdicts answers then credit (words_of answers seen) else warning

-- ---- what it says of verdicts

-- the line has printable words
abbrev pub IsCredit : List ℕ → Type 0
IsCredit line = (words : List ℕ) × All IsPlain words × (line ≡ credit words)

-- the line that says who verified signatures where there are verdicts, and the warning where there are none
abbrev pub IsOpening : Bool → List ℕ → Type 0
IsOpening verified line = ((verified ≡ true) × IsCredit line) ⊎ ((verified ≡ false) × (line ≡ warning))

-- the text begins with that line and the heading
abbrev pub Opens : Bool → List ℕ → Type 0
Opens verified text = (line : List ℕ) × (tables : List ℕ) × IsOpening verified line × (text ≡ line ++ heading ++ tables)
