-- The words on who verified signatures.
use Rattle.std.proofs.Common.{◌≡◌, ℕ, List, ◌++◌, ap, sym, ◌∙◌}
use Rattle.std.proofs.lemmas.List.{append_assoc}
use Rattle.rb_import_check.specs.declared.chain.Commit.{Commit}
use Rattle.rb_import.specs.declared.opening.Tally.{Tally}
use Rattle.rb_import.specs.Openings.{words_on, words_with}
use Rattle.rb_import.specs.Tallies.{IsTally}

seven_in_a_row : (a b c d e f g : List ℕ) → a ++ (b ++ (c ++ (d ++ (e ++ (f ++ g))))) ≡ a ++ b ++ c ++ d ++ e ++ f ++ g
seven_in_a_row a b c d e f g =
    sym (append_assoc (a ++ b ++ c ++ d ++ e) f g ∙ append_assoc (a ++ b ++ c ++ d) e (f ++ g) ∙ append_assoc (a ++ b ++ c) d (e ++ (f ++ g))
    ∙ append_assoc (a ++ b) c (d ++ (e ++ (f ++ g))) ∙ append_assoc a b (c ++ (d ++ (e ++ (f ++ g)))))

eight_in_a_row : (a b c d e f g h : List ℕ) → a ++ (b ++ (c ++ (d ++ (e ++ (f ++ (g ++ h)))))) ≡ a ++ b ++ c ++ d ++ e ++ f ++ g ++ h
eight_in_a_row a b c d e f g h = seven_in_a_row a b c d e f (g ++ h) ∙ sym (append_assoc (a ++ b ++ c ++ d ++ e ++ f) g h)

nine_in_a_row : (a b c d e f g h i : List ℕ) → a ++ (b ++ (c ++ (d ++ (e ++ (f ++ (g ++ (h ++ i))))))) ≡ a ++ b ++ c ++ d ++ e ++ f ++ g ++ h ++ i
nine_in_a_row a b c d e f g h i = eight_in_a_row a b c d e f g (h ++ i) ∙ sym (append_assoc (a ++ b ++ c ++ d ++ e ++ f ++ g) h i)

ten_in_a_row : (a b c d e f g h i j : List ℕ)
    → a ++ (b ++ (c ++ (d ++ (e ++ (f ++ (g ++ (h ++ (i ++ j)))))))) ≡ a ++ b ++ c ++ d ++ e ++ f ++ g ++ h ++ i ++ j
ten_in_a_row a b c d e f g h i j = nine_in_a_row a b c d e f g h (i ++ j) ∙ sym (append_assoc (a ++ b ++ c ++ d ++ e ++ f ++ g ++ h) i j)

pub eleven_in_a_row : (a b c d e f g h i j k : List ℕ)
    → a ++ (b ++ (c ++ (d ++ (e ++ (f ++ (g ++ (h ++ (i ++ (j ++ k))))))))) ≡ a ++ b ++ c ++ d ++ e ++ f ++ g ++ h ++ i ++ j ++ k
eleven_in_a_row a b c d e f g h i j k =
    ten_in_a_row a b c d e f g h i (j ++ k) ∙ sym (append_assoc (a ++ b ++ c ++ d ++ e ++ f ++ g ++ h ++ i) j k)

words_same : (a b c d e a' b' c' d' e' : ℕ) (w w' : List ℕ) → a ≡ a' → b ≡ b' → c ≡ c' → d ≡ d' → e ≡ e' → w ≡ w'
    → words_with a b c d e w ≡ words_with a' b' c' d' e' w'
words_same a b c d e a' b' c' d' e' w w' one two three four five last =
    ap (λ n. words_with n b c d e w) one
    ∙ ap (λ n. words_with a' n c d e w) two
    ∙ ap (λ n. words_with a' b' n d e w) three
    ∙ ap (λ n. words_with a' b' c' n e w) four
    ∙ ap (λ n. words_with a' b' c' d' n w) five
    ∙ ap (λ l. words_with a' b' c' d' e' l) last

-- the words of a tally are those on the commits that it counts
pub tallied : (commits : List Commit) (t : Tally) (verifier who : List ℕ) → IsTally commits t → verifier ≡ who
    → words_with t.commits t.verified t.good t.bad t.unchecked verifier ≡ words_on commits who
unfolding words_on
tallied commits t verifier who is same = words_same _ _ _ _ _ _ _ _ _ _ verifier who is.0 is.1 is.2 is.3 is.4 same
