-- The commands of operations tell the operations, and their replies the answers.
use Rattle.std.proofs.Common.{◌≡◌, ℕ, Bool, true, false, refl, arith, ap, ◌∙◌, List, [], ◌∷◌, ◌++◌, length}
use Rattle.never_heap.specs.declared.Command.{Command}
use Rattle.never_heap.specs.declared.Reply.{Reply}
use Rattle.never_heap.specs.declared.Reply.TheVariants as answers
use Rattle.array_tables.specs.operations.Linearizations.{answers_told}
use Rattle.array_tables.specs.declared.tag_table.operation.Operation.{Operation}
use Rattle.array_tables.specs.declared.tag_table.operation.Operation.TheVariants.{Write, Clear, Read}
use Rattle.array_tables.specs.tag_table.Tables.{Row, rows_of, ends, pair_of, tag_told, AreInTable, IsOperationInRange}
use Rattle.array_tables.proofs.Lemmas.{tables_are_kept, tables_so_far}
use Rattle.array_tables.proofs.tag_table.TagRows.{whole}
use Rattle.live_tables.specs.rows.Life.{last_three}
use Rattle.live_tables.specs.rows.Lawful.{Lawful}
use Rattle.live_tables.specs.rows.Rows.{answer_told}
use Rattle.live_tables.proofs.tags.Doing.{fits_there}
use Rattle.live_tables.specs.tags.Decoding.{operations_from}
use Rattle.live_tables.specs.tags.Live.{commands_of, tags}

pub decoded_from : (ops : List Operation) (made : Bool) (v q : ℕ)
    → operations_from made v q (commands_of ops) ≡ ops
decoded_from [] made v q = refl
decoded_from (Write i a b ∷ ops) made v q = ap (λ l. Write i a b ∷ l) (decoded_from ops _ a b)
decoded_from (Clear i ∷ ops) made v q = ap (λ l. Clear i ∷ l) (decoded_from ops _ v q)
decoded_from (Read i ∷ ops) made v q = ap (λ l. Read i ∷ l) (decoded_from ops made v q)

-- the commands of a script begin with those of its first operations alone
pub record IsRead (made : Bool) (v q : ℕ) (ops : List Operation) (ks : List Command) : Type 0 where
  pub made_then : Bool
  pub v_then : ℕ
  pub q_then : ℕ
  pub told : operations_from made v q (commands_of ops ++ ks)
      ≡ ops ++ operations_from made_then v_then q_then ks

pub read_on : (ops : List Operation) (made : Bool) (v q : ℕ) (ks : List Command)
    → IsRead made v q ops ks
read_on [] made v q ks = record { made_then = made; v_then = v; q_then = q; told = refl }
read_on (Write i a b ∷ ops) made v q ks =
    let r = read_on ops true a b ks in
    record { made_then = r.made_then; v_then = r.v_then; q_then = r.q_then; told = ap (λ l. Write i a b ∷ l) r.told }
read_on (Clear i ∷ ops) made v q ks =
    let r = read_on ops false v q ks in
    record { made_then = r.made_then; v_then = r.v_then; q_then = r.q_then; told = ap (λ l. Clear i ∷ l) r.told }
read_on (Read i ∷ ops) made v q ks =
    let r = read_on ops made v q ks in
    record { made_then = r.made_then; v_then = r.v_then; q_then = r.q_then; told = ap (λ l. Read i ∷ l) r.told }

pub inside_more : (n : ℕ) (ops : List Operation) (op : Operation) → AreInTable n ops
    → IsOperationInRange n op → AreInTable n (ops ++ op ∷ [])
inside_more n [] (Write i v q) all one = (one.0, tt)
inside_more n [] (Clear i) all one = (one, tt)
inside_more n [] (Read i) all one = (one, tt)
inside_more n (x ∷ ops) op all one = (all.0, inside_more n ops op all.1 one)

told_by_tag : (op : Operation) (rows : List Row) (rs more : List Reply)
    → length rs ≡ length (rows_of op)
    → answers_told ends [] (rows_of op ++ rows) (rs ++ more)
    ≡ tag_told op rs ∷ answers_told ends [] rows more
told_by_tag (Read i) rows (a ∷ b ∷ c ∷ []) more same = refl
told_by_tag (Clear i) rows (a ∷ b ∷ c ∷ d ∷ []) more same = refl
told_by_tag (Write i v q) rows (a ∷ b ∷ c ∷ d ∷ e ∷ f ∷ g ∷ h ∷ []) more same = refl
told_by_tag op rows rs more same = absurd (omega arith)

-- an operation's answer is the pair of its last two replies
told_by_two : (op : Operation) (rs : List Reply) → length rs ≡ length (rows_of op)
    → tag_told op rs
    ≡ pair_of (last_three answers.Null answers.Null answers.Null rs).1
    (last_three answers.Null answers.Null answers.Null rs).2
told_by_two (Read i) (a ∷ b ∷ c ∷ []) same = refl
told_by_two (Clear i) (a ∷ b ∷ c ∷ d ∷ []) same = refl
told_by_two (Write i v q) (a ∷ b ∷ c ∷ d ∷ e ∷ f ∷ g ∷ h ∷ []) same = refl
told_by_two op rs same = absurd (omega arith)

pub told_one : (op : Operation) (rows : List Row) (rs more : List Reply)
    → length rs ≡ length (rows_of op)
    → answers_told ends [] (rows_of op ++ rows) (rs ++ more)
    ≡ answer_told tags op rs ∷ answers_told ends [] rows more
told_one op rows rs more same =
    told_by_tag op rows rs more same
    ∙ ap (λ x. x ∷ answers_told ends [] rows more) (told_by_two op rs same)

abbrev pub law : Lawful tags
law = record {
  whole = whole;
  told = told_one;
  decoded = λ t ops read. decoded_from ops false 0 0;
  begins = λ t ops ks read. (let r = read_on ops false 0 0 ks in
      (operations_from r.made_then r.v_then r.q_then ks, r.told));
  none = λ n t. tt;
  more = λ n t ops op all one. inside_more n ops op all one;
  read = λ n t ops all. tt;
  ordered = λ n places blocks rate scripts h count inside run.
      (let all = tables_are_kept n places blocks rate scripts h count inside run in
      (all.0, all.1, all.3));
  so_far = tables_so_far;
  wide = λ n places blocks. refl;
  fits = λ n places blocks t ops op few_threads few low short all next.
      fits_there n places blocks few op next;
}
