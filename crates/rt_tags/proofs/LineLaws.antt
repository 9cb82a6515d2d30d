-- What a line of a script of tags says is what is spelled so, and what is spelled is read again.
use Rattle.std.proofs.Common.{◌≡◌, ℕ, ◌≤◌, ◌^◌, Some, None, List, [], ◌∷◌, codes, decimal, refl, ◌∙◌, subst, arith}
use Rattle.array_scripts.specs.declared.header.Header.{Header}
use Rattle.array_scripts.specs.Kinds.{Tokens, IsHeader, Fits, below, line_at, told_at, language}
use Rattle.array_scripts.proofs.TokenLaws.{chosen, below_sound, below_again, three_of, place_sound}
use Rattle.array_scripts.proofs.LineLaws.{kind_reads}
use Rattle.array_scripts.specs.scripts.Scripts.{Reads}
use Rattle.array_scripts.proofs.scripts.ScriptOrBadLine.{some_is}
use Rattle.array_tables.specs.declared.tag_table.operation.Operation.{Operation}
use Rattle.array_tables.specs.declared.tag_table.operation.Operation.TheVariants.{Write, Clear, Read}
use Rattle.array_tables.specs.tag_table.Tables.{IsOperationInRange}
use Rattle.trace_text.specs.Reading.{◌>>=◌, no_more_of, one_token_of, two_tokens_of, three_tokens_of}
use Rattle.trace_text.proofs.Binds.{bind_then}
use Rattle.rt_tags.specs.Lines.{op_line, write_at, clear_at, read_at, op_at, tag_kind}

-- what an operation's tokens say
abbrev SoundOp : ℕ → Tokens → Operation → Type 0
SoundOp tags line op = (line ≡ op_line op) × IsOperationInRange tags op

write_sound : (tags : ℕ) (first : List ℕ) (tokens : Tokens) (op : Operation)
    → first ≡ codes "write" → write_at tags tokens ≡ Some op → SoundOp tags (first ∷ tokens) op
unfolding write_at
write_sound tags first tokens op is e =
    bind_then (three_tokens_of tokens) _ op e (λ p is1 e1.
    bind_then (below tags p.0) _ op e1 (λ i is2 e2.
    bind_then (below (2 ^ 62) p.1) _ op e2 (λ v is3 e3.
    bind_then (below (2 ^ 62) p.2) _ op e3 (λ q is4 e4.
    let a = below_sound tags p.0 i is2 in
    let b = below_sound (2 ^ 62) p.1 v is3 in
    let c = below_sound (2 ^ 62) p.2 q is4 in
    subst (λ (y : Operation). SoundOp tags (first ∷ tokens) y) (some_is e4) (
      (λ k. is k ∷ (three_of tokens p is1 ∙ (λ j. a.0 j ∷ b.0 j ∷ c.0 j ∷ [])) k),
      (a.1, b.1, c.1),
    )))))

op_sound : (tags : ℕ) (line : Tokens) (op : Operation) → op_at tags line ≡ Some op
    → SoundOp tags line op
unfolding op_at clear_at read_at
op_sound tags [] op e = absurd cc
op_sound tags (first ∷ tokens) op e =
    chosen first (codes "write") _ _ op e (write_sound tags first tokens op) (λ e1.
    chosen first (codes "clear") _ _ op e1
    (place_sound (SoundOp tags) tags (codes "clear") Clear (λ i low. (refl, low)) first tokens op)
    (λ e2.
    chosen first (codes "read") _ None op e2
    (place_sound (SoundOp tags) tags (codes "read") Read (λ i low. (refl, low)) first tokens op)
    (λ bad. absurd cc)))

-- and what is spelled is read
op_again : (tags : ℕ) (op : Operation) → tags ≤ 1024 → IsOperationInRange tags op
    → op_at tags (op_line op) ≡ Some op
unfolding op_at write_at clear_at read_at no_more_of one_token_of two_tokens_of three_tokens_of
op_again tags (Write i v q) few s =
    (λ k. below_again tags i s.0 (omega (arith, few)) k >>= λ i.
    below (2 ^ 62) (decimal v) >>= λ v. below (2 ^ 62) (decimal q) >>= λ q. Some (Write i v q))
    ∙ (λ k. below_again (2 ^ 62) v s.1 (omega arith) k >>= λ v.
    below (2 ^ 62) (decimal q) >>= λ q. Some (Write i v q))
    ∙ (λ k. below_again (2 ^ 62) q s.2 (omega arith) k >>= λ q. Some (Write i v q))
op_again tags (Clear i) few s =
    λ k. below_again tags i s (omega (arith, few)) k >>= λ i. Some (Clear i)
op_again tags (Read i) few s =
    λ k. below_again tags i s (omega (arith, few)) k >>= λ i. Some (Read i)

-- no operation begins as the line of a thread does, or the end
apart : (h : Header) (t : ℕ) (before : List Operation) (op : Operation)
    → line_at tag_kind h t before (op_line op) ≡ told_at tag_kind h t before (op_line op)
unfolding line_at
apart h t before (Write i v q) = refl
apart h t before _ = refl

pub tag_reads : Reads (language tag_kind) (IsHeader tag_kind) (Fits tag_kind)
tag_reads = kind_reads tag_kind (record {
  few_places = omega arith;
  sound = λ tags before line op e. op_sound tags line op e;
  again = λ tags before op few s. op_again tags op few s;
  apart = apart;
})
