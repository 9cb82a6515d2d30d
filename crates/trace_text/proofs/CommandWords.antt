-- What holds of the word of each command, and of the numbers after it.
use Rattle.std.proofs.Common.{◌≡◌, ℕ, ◌<◌, ◌≤◌, ◌^◌, Bool, true, ltb, ◌&&◌, List, [], ◌∷◌, length, Some, refl, ap, ◌∙◌, arith}
use Rattle.std.specs.List.{AllByRecursion}
use Rattle.std.specs.Option.{unwrap_or}
use Rattle.block_store.specs.declared.Width.{Width}
use Rattle.never_heap.specs.declared.Command.{Command}
use Rattle.never_heap.specs.declared.Command.TheVariants as commands
use Rattle.never_heap.specs.Signatures as signed
use Rattle.never_heap.specs.Signatures.{IsOfVersion, numbers, signature, sizes_in}
use Rattle.trace_text.specs.declared.reading.words.Word.{Word}
use Rattle.trace_text.specs.declared.reading.words.Word.TheVariants as words
use Rattle.trace_text.specs.Said.{count_is}
use Rattle.trace_text.specs.Words.{word_at, has_word, is_command, is_wide, operands}
use Rattle.trace_text.proofs.WordLaws.{AreWritten, word_complete, word_text}

-- bytes that come after the space
abbrev pub is_token : List ℕ → Bool
is_token [] = true
is_token (b ∷ bs) = ltb 32 b && is_token bs

abbrev pub word_of : Command → Word
word_of k = unwrap_or (word_at (signature k).word) words.End

-- its word is a command's, of its version, with as many operands, of which one at most is no
-- register
pub record Spelled (k : Command) : Type 0 where
  pub text : (signature k).word ≡ word_text (word_of k)
  pub token : is_token (signature k).word ≡ true
  pub command : is_command (word_of k) ≡ true
  pub count : count_is (length (operands (word_of k))) (numbers k) ≡ true
  pub version : (width : Width) → IsOfVersion (signature k).version width
      → has_word width (word_of k) ≡ true
  pub one : length (sizes_in (signed.operands k)) ≤ 1

abbrev first : {k : Command} → (signature k).word ≡ word_text (word_of k)
    → is_token (signature k).word ≡ true → is_command (word_of k) ≡ true
    → count_is (length (operands (word_of k))) (numbers k) ≡ true
    → ((width : Width) → has_word width (word_of k) ≡ true)
    → length (sizes_in (signed.operands k)) ≤ 1 → Spelled k
first text token command count version one = record {
  text = text;
  token = token;
  command = command;
  count = count;
  version = λ width is. version width;
  one = one;
}

pub spelled : (k : Command) → Spelled k
spelled (commands.New d f) = first refl refl refl refl (λ w. refl) (omega arith)
spelled (commands.Arr d e) = first refl refl refl refl (λ w. refl) (omega arith)
spelled (commands.Set d v) = first refl refl refl refl (λ w. refl) (omega arith)
spelled (commands.Nil d) = first refl refl refl refl (λ w. refl) (omega arith)
spelled (commands.Mov d s) = first refl refl refl refl (λ w. refl) (omega arith)
spelled (commands.Get d s i) = first refl refl refl refl (λ w. refl) (omega arith)
spelled (commands.Put s i v) = first refl refl refl refl (λ w. refl) (omega arith)
spelled (commands.Len s) = first refl refl refl refl (λ w. refl) (omega arith)
spelled (commands.Same a b) = first refl refl refl refl (λ w. refl) (omega arith)
spelled (commands.Say s) = first refl refl refl refl (λ w. refl) (omega arith)
spelled (commands.Swap s i v) = record {
  text = refl;
  token = refl;
  command = refl;
  count = refl;
  version = λ width is. ap is_wide is;
  one = omega arith;
}
spelled (commands.Cas s i a v) = record {
  text = refl;
  token = refl;
  command = refl;
  count = refl;
  version = λ width is. ap is_wide is;
  one = omega arith;
}
spelled (commands.Idle u) = record {
  text = refl;
  token = refl;
  command = refl;
  count = refl;
  version = λ width is. ap is_wide is;
  one = omega arith;
}

-- its word is read again
pub word_again : (k : Command) → word_at (signature k).word ≡ Some (word_of k)
word_again k = ap word_at (spelled k).text ∙ word_complete (word_of k)

pub are_written : (ns : List ℕ) → AllByRecursion (λ n. n < 2 ^ 62) ns → AreWritten ns
are_written [] h = tt
are_written (n ∷ ns) h = (omega (arith, h.0), are_written ns h.1)
