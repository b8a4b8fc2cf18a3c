-- What a comment says changes no instruction.
use Rattle.std.proofs.Common.{◌≡◌, ℕ, zero, suc, ◌+◌, ◌-◌, ◌≤◌, Bool, true, false, not, ◌&&◌, ◌||◌, List, [], ◌∷◌, ◌++◌, length, length-append, length-drop, take, drop, refl, ap, sym, ◌∙◌, subst, ⊎_elim, arith}
use Rattle.std.specs.Prelude.{◌==◌, if◌then◌else◌, slice_index}
use Rattle.std.specs.List.{AllByRecursion, fold, take_while, prefix_len}
use Rattle.std.proofs.Math.Bool.{and-false}
use Rattle.std.proofs.Math.Seq.{get_or-append_seam, take-append-add}
use Rattle.std.proofs.lemmas.Bool.{cond-true, cond-false, cases_Bool, false≢true}
use Rattle.std.proofs.lemmas.Bool.Decides.{nat_tests}
use Rattle.std.proofs.lemmas.List.{take-append-drop, drop-append-le, take-append-le, drop_more, take_more}
use Rattle.std.proofs.lemmas.List.Sums.{fold-append, take_while-cons}
use Rattle.insn_ir.specs.declared.entry.EntryKind.{EntryKind}
use Rattle.insn_ir.specs.declared.insn.Insn.{Insn}
use Rattle.att_lexer.specs.Bytes.{is_blank, is_digit, is_letter, is_symbol_byte, is_symbol_start, is_calm, is_stop, is_freeze_byte}
use Rattle.att_lexer.specs.Tokens.{run_token, token_of, ends_tokens, tokens_from, is_first_label, tokens_of, AreInOrder}
use Rattle.att_lexer.specs.Scan.{lead_after, is_name, Lead, Blanks, Symbol, Digits, Other}
use Rattle.att_lexer.specs.declared.token.Token.{Token}
use Rattle.att_lexer.specs.declared.token.TokenKind.TheVariants.{Mark}
use Rattle.att_lexer.proofs.ScanLaws.{other_stays}
use Rattle.att_lexer.proofs.TokensLaws.{from_end, from_blank, from_token, token_at, tokens_in_order}
use Rattle.att_grammar.specs.Lexemes.{content, lexeme, says_all}
use Rattle.att_grammar.specs.Directives.{is_assignment}
use Rattle.att_grammar.specs.Instructions.{instruction_of}
use Rattle.att_grammar.specs.Entries.{is_directive, is_inline_mark, insn_or_opaque, statement_of, unlabelled, kind_of_piece}
use Rattle.att_reader.specs.Comments.{calm_len, IsUpToComment}

abbrev AreCalm : List ℕ → Type 0
AreCalm bytes = AllByRecursion (λ b. is_calm b ≡ true) bytes

calm_goes_on : (b : ℕ) → is_calm b ≡ true → ends_tokens b ≡ false
unfolding is_stop is_freeze_byte ends_tokens
calm_goes_on b e = grind (arith, nat_tests)

calm_no_quote : (b : ℕ) → is_calm b ≡ true → (b == 34) ≡ false
unfolding is_stop is_freeze_byte
calm_no_quote b e = grind (arith, nat_tests)

-- a run ends before the `#` of a comment
run_before : (bs rest : List ℕ) → take_while is_symbol_byte (bs ++ 35 ∷ rest) ≡ take_while is_symbol_byte bs
unfolding is_symbol_byte is_letter is_digit
run_before [] rest = take_while-cons is_symbol_byte 35 rest
run_before (b ∷ bs) rest =
    take_while-cons is_symbol_byte b (bs ++ 35 ∷ rest)
    ∙ rw (run_before bs rest) (sym (take_while-cons is_symbol_byte b bs))

-- a token that is no string is the same where a comment follows
token_before : (at b : ℕ) (bs rest : List ℕ) → (b == 34) ≡ false → token_of at b (bs ++ 35 ∷ rest) ≡ token_of at b bs
unfolding token_of
token_before at b bs rest e =
    cond-false (b == 34) _ _ e
    ∙ ap (λ run. if is_symbol_byte b && not (b == 36) then run_token at run else record { kind = Mark; start = at; len = 1; value = 0 }) (run_before (b ∷ bs) rest)
    ∙ sym (cond-false (b == 34) _ _ e)

-- the tokens before a comment
tokens_before : (n at : ℕ) (bs rest : List ℕ) → AreCalm bs → n ≤ length bs → tokens_from n at (bs ++ 35 ∷ rest) ≡ tokens_from n at bs
unfolding tokens_from ends_tokens
tokens_before zero at [] rest calm le = from_end at 35 rest refl
tokens_before (suc n) at [] rest calm le = absurd (omega arith)
tokens_before (suc n) at (b ∷ bs) rest calm le = tokens_before n (at + 1) bs rest calm.1 (omega arith)
tokens_before zero at (b ∷ bs) rest calm le =
    let on = calm_goes_on b calm.0 in
    ⊎_elim
    (λ k. from_blank at b (bs ++ 35 ∷ rest) on k ∙ tokens_before 0 (at + 1) bs rest calm.1 (omega arith) ∙ sym (from_blank at b bs on k))
    (λ k. from_token at b (bs ++ 35 ∷ rest) on k
    ∙ ap (λ t. t ∷ tokens_from (t.len - 1) (at + 1) (bs ++ 35 ∷ rest)) (token_before at b bs rest (calm_no_quote b calm.0))
    ∙ ap (λ ts. token_of at b bs ∷ ts) (tokens_before ((token_of at b bs).len - 1) (at + 1) bs rest calm.1 (omega (arith, (token_at at b bs).within)))
    ∙ sym (from_token at b bs on k))
    (cases_Bool (is_blank b))

-- what a token says that lies in front
content_before : (p rest : List ℕ) (t : Token) → t.start + t.len ≤ length p → content (p ++ rest) t ≡ content p t
content_before p rest t le =
    ap (λ bytes. lexeme t.kind bytes t.value)
    (ap (take t.len) (drop-append-le t.start p rest (omega arith))
    ∙ take-append-le t.len (drop t.start p) rest (omega (arith, length-drop t.start p)))

says_before : (p rest : List ℕ) (from : ℕ) (ts : List Token) → AreInOrder from (length p) ts → says_all (p ++ rest) ts ≡ says_all p ts
says_before p rest from [] order = refl
says_before p rest from (t ∷ ts) order =
    ap (λ l. l ∷ says_all (p ++ rest) ts) (content_before p rest t order.2)
    ∙ ap (λ ls. content p t ∷ ls) (says_before p rest (t.start + t.len) ts order.3)

abbrev is_insn : EntryKind → Bool
is_insn (EntryKind.Insn i) = true
is_insn _ = false

-- what an instruction is depends on what its tokens say
statement_insn : (piece other : List ℕ) (ts : List Token) (i : Insn) → says_all piece ts ≡ says_all other ts → statement_of piece ts ≡ EntryKind.Insn i → statement_of other ts ≡ EntryKind.Insn i
unfolding statement_of
statement_insn piece other ts i same is =
    let says = says_all piece ts in
    ⊎_elim
    (λ t. absurd (false≢true (ap is_insn (sym (cond-true _ _ _ t) ∙ is))))
    (λ t. cond-false _ _ _ (subst (λ ls. (is_assignment ls || is_directive ls) ≡ false) same t)
    ∙ ap (λ ls. insn_or_opaque (instruction_of ls) ls) (sym same)
    ∙ sym (cond-false _ _ _ t) ∙ is)
    (cases_Bool (is_assignment says || is_directive says))

same_insn : (piece other : List ℕ) (ts : List Token) (i : Insn) → says_all piece ts ≡ says_all other ts → unlabelled piece ts ≡ EntryKind.Insn i → unlabelled other ts ≡ EntryKind.Insn i
same_insn piece other [] i same is =
    ⊎_elim
    (λ t. absurd (false≢true (ap is_insn (sym (cond-true (is_inline_mark piece) _ _ t) ∙ is))))
    (λ t. absurd (false≢true (ap is_insn (sym (cond-false (is_inline_mark piece) _ _ t) ∙ is))))
    (cases_Bool (is_inline_mark piece))
same_insn piece other (t ∷ ts) i same is = statement_insn piece other (t ∷ ts) i same is

-- the bytes before the first stop
calm_front : (bytes : List ℕ) → AreCalm (take (prefix_len is_calm bytes) bytes)
calm_front [] = tt
calm_front (b ∷ bs) =
    let more : 1 + prefix_len is_calm bs ≡ suc (prefix_len is_calm bs) = omega arith in
    ⊎_elim
    (λ e. subst (λ n. AreCalm (take n (b ∷ bs))) (sym (cond-true (is_calm b) (1 + prefix_len is_calm bs) 0 e ∙ more)) (e, calm_front bs))
    (λ e. subst (λ n. AreCalm (take n (b ∷ bs))) (sym (cond-false (is_calm b) (1 + prefix_len is_calm bs) 0 e)) tt)
    (cases_Bool (is_calm b))

-- no first label goes on behind a `#`
other_behind : (go : Lead) (rest : List ℕ) → fold lead_after go (35 ∷ rest) ≡ Other
unfolding is_symbol_start is_symbol_byte is_letter is_digit is_blank
other_behind Blanks rest = other_stays rest
other_behind Symbol rest = other_stays rest
other_behind Digits rest = other_stays rest
other_behind Other rest = other_stays rest

no_name : (p rest : List ℕ) → is_name (fold lead_after Blanks (p ++ 35 ∷ rest)) ≡ false
no_name p rest = ap is_name (fold-append lead_after Blanks p (35 ∷ rest) ∙ other_behind (fold lead_after Blanks p) rest)

-- a piece with a comment is no first label
no_label : (p rest : List ℕ) → is_first_label (p ++ 35 ∷ rest) ≡ false
no_label p [] = ap (λ b. b == 58 && is_name (fold lead_after Blanks (take (length (p ++ 35 ∷ []) - 1) (p ++ 35 ∷ [])))) (ap (slice_index (p ++ 35 ∷ [])) (omega (arith, length-append p (35 ∷ []))) ∙ get_or-append_seam p 35 [] 0)
no_label p (r ∷ rs) =
    let x = p ++ 35 ∷ r ∷ rs in
    let front : take (length x - 1) x ≡ p ++ 35 ∷ take (length rs) (r ∷ rs) = ap (λ n. take n x) (omega (arith, length-append p (35 ∷ r ∷ rs))) ∙ take-append-add p (35 ∷ r ∷ rs) (suc (length rs)) in
    ap (λ t. slice_index x (length x - 1) == 58 && is_name (fold lead_after Blanks t)) front
    ∙ ap (λ t. slice_index x (length x - 1) == 58 && t) (no_name p (take (length rs) (r ∷ rs)))
    ∙ and-false (slice_index x (length x - 1) == 58)

-- two pieces with the same calm front and a comment behind it
same_front : (p one other : List ℕ) (i : Insn) → AreCalm p → kind_of_piece (p ++ 35 ∷ one) ≡ EntryKind.Insn i → kind_of_piece (p ++ 35 ∷ other) ≡ EntryKind.Insn i
unfolding kind_of_piece
same_front p one other i calm is =
    let x = p ++ 35 ∷ one in
    let y = p ++ 35 ∷ other in
    let ts = tokens_from 0 0 p in
    let of_x : tokens_of x ≡ ts = ap (tokens_from 0 0) (cond-false (is_first_label x) _ _ (no_label p one)) ∙ tokens_before 0 0 p one calm (omega arith) in
    let of_y : tokens_of y ≡ ts = ap (tokens_from 0 0) (cond-false (is_first_label y) _ _ (no_label p other)) ∙ tokens_before 0 0 p other calm (omega arith) in
    let order : AreInOrder 0 (length p) ts = tokens_in_order 0 0 (length p) p (omega arith) in
    let same = says_before p (35 ∷ one) 0 ts order ∙ sym (says_before p (35 ∷ other) 0 ts order) in
    let insn : unlabelled x ts ≡ EntryKind.Insn i = ap (unlabelled x) (sym of_x) ∙ sym (cond-false (is_first_label x) _ _ (no_label p one)) ∙ is in
    cond-false (is_first_label y) _ _ (no_label p other) ∙ ap (unlabelled y) of_y ∙ same_insn x y ts i same insn

-- a line that has a comment, and its front
record IsCutAt (front line p rest : List ℕ) : Type 0 where
  whole : line ≡ p ++ 35 ∷ rest
  cut : front ≡ p ++ 35 ∷ []

cut_at : (front line : List ℕ) → IsUpToComment front line → IsCutAt front line (take (calm_len line) line) (drop (calm_len line + 1) line)
cut_at front line up =
    let n = calm_len line in
    record {
      whole = sym (take-append-drop n line) ∙ ap (λ t. take n line ++ t) (drop_more line n 0 up.within ∙ ap (λ b. b ∷ drop (n + 1) line) up.hash);
      cut = up.is_front ∙ take_more line n 0 up.within ∙ ap (λ b. take n line ++ b ∷ []) up.hash;
    }

-- the instruction before a comment is that of the line
pub from_front : (front line : List ℕ) (i : Insn) → IsUpToComment front line → kind_of_piece front ≡ EntryKind.Insn i → kind_of_piece line ≡ EntryKind.Insn i
from_front front line i up is =
    let p = take (calm_len line) line in
    let rest = drop (calm_len line + 1) line in
    let at = cut_at front line up in
    ap kind_of_piece at.whole
    ∙ same_front p [] rest i (calm_front line)
    (ap kind_of_piece (sym at.cut) ∙ is)

pub to_front : (front line : List ℕ) (i : Insn) → IsUpToComment front line → kind_of_piece line ≡ EntryKind.Insn i → kind_of_piece front ≡ EntryKind.Insn i
to_front front line i up is =
    let p = take (calm_len line) line in
    let rest = drop (calm_len line + 1) line in
    let at = cut_at front line up in
    ap kind_of_piece at.cut
    ∙ same_front p rest [] i (calm_front line)
    (ap kind_of_piece (sym at.whole) ∙ is)
