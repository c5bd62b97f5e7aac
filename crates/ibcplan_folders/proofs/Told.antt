-- Answers that were read, and the texts that are made of them.
use Rattle.std.proofs.Common.{◌≡◌, ◌<◌, ◌+◌, ℕ, List, [], ◌∷◌, ◌++◌, get_or, length, subst, sym, take}
use Rattle.std.specs.Prelude.{Result, Ok, Err, OnOk, Option, Some, None, IfSome}
use Rattle.std.specs.Global.{Global}
use Rattle.std.specs.List.{All, AllZip}
use Rattle.std.proofs.lemmas.List.Elements.{All-push}
use Rattle.rb_messages.proofs.Zipped.{zipped_more}
use Rattle.rb_packets.specs.Messages.{Due, IsProven, file_of}
use Rattle.rb_packets.specs.declared.facts.PathAnswer.{PathAnswer}
use Rattle.rb_plan_client.specs.Task.{Message}
use Rattle.rb_script_types.specs.declared.config.Config.{Config}
use Rattle.rb_script_types.specs.declared.config.PathConfig.{PathConfig}
use Rattle.rb_messages.specs.declared.batch.PlannedBatch.{PlannedBatch}
use Rattle.rb_packets.specs.Facts.{IsAnswerOf}
use Rattle.ibcplan_folders.specs.Folders.{AnswerFile, OfKnown, content}
use Rattle.ibcplan_folders.specs.Packets.{IsDue, IsTextOf, WasRead, proofs_of}

pub some_read : (W : PathAnswer → Type 0) (o : Option PathAnswer) (a : PathAnswer) → o ≡ Some a → IfSome o W → W a
some_read W o a is told = subst (λ (x : Option PathAnswer). IfSome x W) is told

-- behind those that were read is one more, if it could be added
pub added_read : {T E : Type 0} (W : PathAnswer → Type 0) (r : Result T E) (old new : List PathAnswer) (a : PathAnswer) → OnOk r (new ≡ old ++ a ∷ []) → W a → OnOk r (All W old → All W new)
added_read W (Ok done) old new a is told = λ were. subst (All W) (sym is) (All-push W old a were told)
added_read W (Err error) old new a is told = tt

named : (known : Option (List AnswerFile)) (folder name bytes : List ℕ) → OfKnown known (λ files. content folder name files ≡ Some bytes)
    → OfKnown known (λ files. (n : List ℕ) × (content folder n files ≡ Some bytes))
named None folder name bytes at = tt
named (Some files) folder name bytes at = (name, at)

-- what the bytes of a file tell
pub read_of : (known : Option (List AnswerFile)) (folder name bytes slice : List ℕ) (o : Option PathAnswer) → slice ≡ bytes → OfKnown known (λ files. content folder name files ≡ Some bytes)
    → IfSome o (IsAnswerOf slice) → IfSome o (WasRead known folder)
read_of known folder name bytes slice None same at told = tt
read_of known folder name bytes slice (Some a) same at told = record { bytes = bytes; told = subst (λ bs. IsAnswerOf bs a) same told; of_file = named known folder name bytes at }

-- beside a list the next one is made
pub beside_more : {A B : Type 0} (R : A → B → Type 0) (xs : List A) (i : ℕ) (x : A) (ys zs : List B) (y : B) → zs ≡ ys ++ y ∷ []
    → i < length xs → x ≡ get_or xs i x → R x y → AllZip R (take i xs) ys → AllZip R (take (i + 1) xs) zs
beside_more R xs i x ys zs y more lt is one all = subst (AllZip R (take (i + 1) xs)) (sym more) (zipped_more R xs i x ys y lt is one all)

-- a text of an answer that stands in the file that was asked for
pub proven_text : (known : Option (List AnswerFile)) (config : Config Global) (batch : PlannedBatch) (answers : List PathAnswer) (signer : List ℕ) (path : PathConfig) (m : Message) (text : List ℕ)
    (d : Due) (answer bytes id file : List ℕ) → IsDue config batch answers path m d → IsProven d signer answer text → answer ≡ bytes → id ≡ path.id → file ≡ file_of d
    → OfKnown known (λ files. content (proofs_of id) file files ≡ Some bytes) → IsTextOf known config batch answers signer path m text
proven_text known config batch answers signer path m text d answer bytes id file due proven same of_path asked there = record {
  due = d;
  answer = bytes;
  is_due = due;
  is_proven = subst (λ (a : List ℕ). IsProven d signer a text) same proven;
  of_file = subst (λ (f : List ℕ). OfKnown known (λ files. content (proofs_of path.id) f files ≡ Some bytes)) asked
      (subst (λ (i : List ℕ). OfKnown known (λ files. content (proofs_of i) file files ≡ Some bytes)) of_path there);
}
