-- A line of canonical text is one piece, whatever follows it.
use Rattle.std.proofs.Common.{◌≡◌, ℕ, Bool, true, false, not, ◌&&◌, ◌||◌, List, [], ◌∷◌, ◌++◌, Option, refl, ap, sym, ◌∙◌, subst, arith, append_assoc, append-nil}
use Rattle.std.specs.Prelude.{◌==◌, ◌≤◌, ◌^◌, IsTrue, codes}
use Rattle.std.specs.List.{AllByRecursion}
use Rattle.std.specs.Fmt.{decimal}
use Rattle.std.proofs.lemmas.Bool.{cond-true, cond-false, and_parts, not-true}
use Rattle.std.proofs.lemmas.Bool.Decides.{nat_tests}
use Rattle.insn_ir.specs.declared.op.Op.{Op}
use Rattle.insn_ir.specs.declared.op.Width.{Width}
use Rattle.insn_ir.specs.declared.insn.Arg.{Arg}
use Rattle.insn_ir.specs.declared.insn.Insn.{Insn}
use Rattle.insn_ir.specs.Profile.{IsInstruction}
use Rattle.att_lexer.specs.Bytes.{is_blank, is_digit, is_letter, is_symbol_byte, is_symbol_start}
use Rattle.att_lexer.specs.Scan.{place_after, lead_after, at_start, after, ends, Lead, Blanks, Symbol, Other, Scan}
use Rattle.att_lexer.specs.Pieces.{AllBytes, IsSymbol, onto_first, pieces_from, pieces}
use Rattle.att_lexer.specs.Tokens.{ends_tokens}
use Rattle.att_lexer.specs.declared.scan.Place.TheVariants.{Plain}
use Rattle.att_grammar.specs.Spelling.{Item, gap, name, digits, sign, render, IsMarkByte, IsWellSpelled}
use Rattle.att_grammar.specs.Directives.{IsBelow}
use Rattle.att_grammar.specs.Canonical.{first_items, next_items, insn_text, padding_items, align_text, line_of}
use Rattle.att_grammar.proofs.Decimal.{decimal_is}
use Rattle.att_grammar.proofs.CanonicalSpelling.{well_align}
use Rattle.att_grammar.proofs.CanonicalLaw.{operands, Leads, begins, insn_items_well}

-- a byte that neither ends a piece behind its lead nor begins a string or a comment
abbrev calm : ℕ → Bool
calm b = not (b == 10) && not (b == 59) && not (b == 34) && not (b == 35)

abbrev AreCalm : List ℕ → Type 0
AreCalm bytes = AllByRecursion (λ b. IsTrue (calm b)) bytes

calm-append : (xs ys : List ℕ) → AreCalm xs → AreCalm ys → AreCalm (xs ++ ys)
calm-append [] ys h k = k
calm-append (x ∷ xs) ys h k = (h.0, calm-append xs ys h.1 k)

calm_symbol : (b : ℕ) → is_symbol_byte b ≡ true → calm b ≡ true
unfolding is_symbol_byte is_letter is_digit
calm_symbol b e = grind (arith, nat_tests)

calm_symbols : (bs : List ℕ) → AllBytes is_symbol_byte bs → AreCalm bs
calm_symbols [] h = tt
calm_symbols (b ∷ bs) h = (calm_symbol b h.0, calm_symbols bs h.1)

calm_digit : (b : ℕ) → is_digit b ≡ true → calm b ≡ true
unfolding is_digit
calm_digit b e = grind (arith, nat_tests)

calm_digits : (bs : List ℕ) → AllBytes is_digit bs → AreCalm bs
calm_digits [] h = tt
calm_digits (b ∷ bs) h = (calm_digit b h.0, calm_digits bs h.1)

start_symbol : (b : ℕ) → is_symbol_start b ≡ true → is_symbol_byte b ≡ true
unfolding is_symbol_start
start_symbol b e = (and_parts _ _ (and_parts _ _ e).0).0

name_symbols : (bytes : List ℕ) → IsSymbol bytes → AllBytes is_symbol_byte bytes
name_symbols [] h = absurd h
name_symbols (b ∷ bs) h = (start_symbol b h.0, h.1)

calm_by : (b : ℕ) → ends_tokens b ≡ false → (b == 34) ≡ false → calm b ≡ true
unfolding ends_tokens
calm_by b e q = grind (arith, nat_tests)

calm_mark : (b : ℕ) → IsMarkByte b → calm b ≡ true
calm_mark b h =
    let p = and_parts _ (not (is_symbol_byte b) || b == 36) h in
    let q = and_parts _ (not (b == 34)) p.0 in
    let r = and_parts (not (is_blank b)) (not (ends_tokens b)) q.0 in
    calm_by b (not-true _ r.1) (not-true _ q.1)

calm_text : (items : List Item) → IsWellSpelled items → AreCalm (render items)
calm_text [] h = tt
calm_text (gap ∷ items) h = (refl, calm_text items h)
calm_text (name bytes ∷ items) h = calm-append bytes (render items) (calm_symbols bytes (name_symbols bytes h.0)) (calm_text items h.2)
calm_text (digits n ∷ items) h = calm-append (decimal n) (render items) (calm_digits (decimal n) (decimal_is n h.0).all) (calm_text items h.2)
calm_text (sign b ∷ items) h = (calm_mark b h.0, calm_text items h.2)

-- The scan of a line.

abbrev scan : Lead → Scan
scan lead = record { place = Plain; lead = lead }

other_ends : (b : ℕ) → calm b ≡ true → ends (scan Other) b ≡ false
unfolding ends
other_ends b e = grind (arith, nat_tests)

calm_plain : (b : ℕ) → calm b ≡ true → place_after Plain b ≡ Plain
calm_plain b e = grind (arith, nat_tests)

other_goes : (b : ℕ) → calm b ≡ true → after (scan Other) b ≡ scan Other
unfolding after
other_goes b e = ap (λ p. record { place = p; lead = Other }) (calm_plain b e)

newline_ends : (lead : Lead) → ends (scan lead) 10 ≡ true
unfolding ends
newline_ends lead = refl

other_line : (bytes rest : List ℕ) → AreCalm bytes → pieces_from (scan Other) (bytes ++ 10 ∷ rest) ≡ (bytes ++ 10 ∷ []) ∷ pieces rest
unfolding pieces_from
other_line [] rest h = cond-true (ends (scan Other) 10) _ _ (newline_ends Other)
other_line (b ∷ bs) rest h =
    cond-false (ends (scan Other) b) _ _ (other_ends b h.0) ∙ ap (λ s. onto_first b (pieces_from s (bs ++ 10 ∷ rest))) (other_goes b h.0) ∙ ap (onto_first b) (other_line bs rest h.1)

symbol_ends : (b : ℕ) → is_symbol_byte b ≡ true → ends (scan Symbol) b ≡ false
unfolding ends is_symbol_byte is_letter is_digit
symbol_ends b e = grind (arith, nat_tests)

symbol_goes : (b : ℕ) → is_symbol_byte b ≡ true → after (scan Symbol) b ≡ scan Symbol
unfolding after
symbol_goes b e = ap (λ p. record { place = p; lead = lead_after Symbol b }) (calm_plain b (calm_symbol b e)) ∙ ap scan (cond-true (is_symbol_byte b) _ _ e)

-- a run of symbol bytes in front of what is left of a piece
symbol_run : (bytes rest piece : List ℕ) (others : List (List ℕ)) → AllBytes is_symbol_byte bytes → pieces_from (scan Symbol) rest ≡ piece ∷ others → pieces_from (scan Symbol) (bytes ++ rest) ≡ (bytes ++ piece) ∷ others
unfolding pieces_from
symbol_run [] rest piece others h e = e
symbol_run (b ∷ bs) rest piece others h e =
    cond-false (ends (scan Symbol) b) _ _ (symbol_ends b h.0) ∙ ap (λ s. onto_first b (pieces_from s (bs ++ rest))) (symbol_goes b h.0) ∙ ap (onto_first b) (symbol_run bs rest piece others h.1 e)

apart_ends : (b : ℕ) → calm b ≡ true → (b == 58) ≡ false → ends (scan Symbol) b ≡ false
unfolding ends
apart_ends b e k = grind (arith, nat_tests)

apart_goes : (b : ℕ) → calm b ≡ true → is_symbol_byte b ≡ false → after (scan Symbol) b ≡ scan Other
unfolding after
apart_goes b e k = ap (λ p. record { place = p; lead = lead_after Symbol b }) (calm_plain b e) ∙ ap scan (cond-false (is_symbol_byte b) _ _ k)

-- the rest of a line behind its first word
apart_line : (b : ℕ) (bytes rest : List ℕ) → calm b ≡ true → (b == 58) ≡ false → is_symbol_byte b ≡ false → AreCalm bytes → pieces_from (scan Symbol) (b ∷ bytes ++ 10 ∷ rest) ≡ (b ∷ bytes ++ 10 ∷ []) ∷ pieces rest
unfolding pieces_from
apart_line b bytes rest e colon k h =
    cond-false (ends (scan Symbol) b) _ _ (apart_ends b e colon) ∙ ap (λ s. onto_first b (pieces_from s (bytes ++ 10 ∷ rest))) (apart_goes b e k) ∙ ap (onto_first b) (other_line bytes rest h)

blank_symbol : is_symbol_byte 32 ≡ false
unfolding is_symbol_byte is_letter is_digit
blank_symbol = refl

behind_word : (items : List Item) (rest : List ℕ) → IsWellSpelled items → Leads items → pieces_from (scan Symbol) (render items ++ 10 ∷ rest) ≡ (render items ++ 10 ∷ []) ∷ pieces rest
unfolding pieces_from
behind_word [] rest h k = cond-true (ends (scan Symbol) 10) _ _ (newline_ends Symbol)
behind_word (gap ∷ items) rest h k = apart_line 32 (render items) rest refl refl blank_symbol (calm_text items h)
behind_word (sign b ∷ items) rest h k =
    let parts = and_parts (not (is_symbol_byte b)) (not (b == 58)) k in
    apart_line b (render items) rest (calm_mark b h.0) (not-true _ parts.1) (not-true _ parts.0) (calm_text items h.2)
behind_word (name bytes ∷ items) rest h k = absurd k
behind_word (digits n ∷ items) rest h k = absurd k

tab_goes : after at_start 9 ≡ scan Blanks
unfolding after is_blank is_digit is_letter is_symbol_byte is_symbol_start
tab_goes = refl

tab_ends : ends at_start 9 ≡ false
unfolding ends
tab_ends = refl

start_ends : (b : ℕ) → calm b ≡ true → ends (scan Blanks) b ≡ false
unfolding ends
start_ends b e = grind (arith, nat_tests)

start_goes : (b : ℕ) → is_symbol_start b ≡ true → after (scan Blanks) b ≡ scan Symbol
unfolding after
start_goes b e = ap (λ p. record { place = p; lead = lead_after Blanks b }) (calm_plain b (calm_symbol b (start_symbol b e))) ∙ ap scan (cond-true (is_symbol_start b) _ _ e)

-- a line that begins with a word
word_line : (b : ℕ) (bs more rest : List ℕ) → IsSymbol (b ∷ bs) → pieces_from (scan Symbol) (more ++ 10 ∷ rest) ≡ (more ++ 10 ∷ []) ∷ pieces rest
    → pieces (9 ∷ b ∷ (bs ++ (more ++ 10 ∷ rest))) ≡ (9 ∷ b ∷ (bs ++ (more ++ 10 ∷ []))) ∷ pieces rest
unfolding pieces_from
word_line b bs more rest h e =
    cond-false (ends at_start 9) _ _ tab_ends
    ∙ ap (λ s. onto_first 9 (pieces_from s (b ∷ (bs ++ (more ++ 10 ∷ rest))))) tab_goes
    ∙ ap (onto_first 9) (cond-false (ends (scan Blanks) b) _ _ (start_ends b (calm_symbol b (start_symbol b h.0)))
    ∙ ap (λ s. onto_first b (pieces_from s (bs ++ (more ++ 10 ∷ rest)))) (start_goes b h.0)
    ∙ ap (onto_first b) (symbol_run bs (more ++ 10 ∷ rest) (more ++ 10 ∷ []) (pieces rest) h.1 e))

line_with : (bytes more rest : List ℕ) → line_of (bytes ++ more) ++ rest ≡ 9 ∷ (bytes ++ (more ++ 10 ∷ rest))
line_with bytes more rest = ap (λ l. 9 ∷ l) (append_assoc (bytes ++ more) (10 ∷ []) rest ∙ append_assoc bytes more (10 ∷ rest))

line_alone : (bytes more : List ℕ) → line_of (bytes ++ more) ≡ 9 ∷ (bytes ++ (more ++ 10 ∷ []))
line_alone bytes more = ap (λ l. 9 ∷ l) (append_assoc bytes more (10 ∷ []))

pub line_piece : (bytes : List ℕ) (items : List Item) (rest : List ℕ) → IsSymbol bytes → IsWellSpelled items → Leads items → pieces (line_of (render (name bytes ∷ items)) ++ rest) ≡ line_of (render (name bytes ∷ items)) ∷ pieces rest
line_piece [] items rest h k m = absurd h
line_piece (b ∷ bs) items rest h k m =
    ap pieces (line_with (b ∷ bs) (render items) rest) ∙ word_line b bs (render items) rest h (behind_word items rest k m) ∙ ap (λ l. l ∷ pieces rest) (sym (line_alone (b ∷ bs) (render items)))

-- Instructions and alignments.

leads_next : (width : Width) (a : Arg) (rest : List Item) → Leads rest → Leads (next_items width a ++ rest)
unfolding is_symbol_byte is_letter is_digit
leads_next width Arg.Absent rest h = h
leads_next width (Arg.Reg r) rest h = refl
leads_next width (Arg.Imm imm) rest h = refl
leads_next width (Arg.Mem mem) rest h = refl
leads_next width (Arg.Code atom) rest h = refl

leads_last : (width : Width) (a : Arg) → Leads (next_items width a)
leads_last width a = subst Leads (append-nil (next_items width a)) (leads_next width a [] tt)

leads_first : (op : Op) (width : Width) (a : Arg) (rest : List Item) → Leads rest → Leads (first_items op width a ++ rest)
leads_first op width Arg.Absent rest h = h
leads_first op width (Arg.Reg r) rest h = tt
leads_first op width (Arg.Imm imm) rest h = tt
leads_first op width (Arg.Mem mem) rest h = tt
leads_first op width (Arg.Code atom) rest h = tt

pub insn_line_piece : (i : Insn) (rest : List ℕ) → IsInstruction i → pieces (line_of (insn_text i) ++ rest) ≡ line_of (insn_text i) ∷ pieces rest
unfolding insn_text
insn_line_piece i rest h =
    let start = begins i.op i.width h.width in
    let others = start.more ++ operands i.op i.width i.a i.b i.c in
    let leads : Leads (operands i.op i.width i.a i.b i.c) = leads_first i.op i.width i.a _ (leads_next i.width i.b _ (leads_last i.width i.c)) in
    let well : IsWellSpelled (name start.bytes ∷ others) = subst (λ l. IsWellSpelled (l ++ operands i.op i.width i.a i.b i.c)) start.is (insn_items_well i h) in
    subst (λ l. pieces (line_of (render (l ++ operands i.op i.width i.a i.b i.c)) ++ rest) ≡ line_of (render (l ++ operands i.op i.width i.a i.b i.c)) ∷ pieces rest) (sym start.is)
    (line_piece start.bytes others rest well.0 well.2 (start.leads _ leads))

pub align_line_piece : (power : ℕ) (fill max : Option ℕ) (rest : List ℕ) → power ≤ 12 → IsBelow (2 ^ 64) fill → IsBelow (2 ^ 32) max → pieces (line_of (align_text power fill max) ++ rest) ≡ line_of (align_text power fill max) ∷ pieces rest
unfolding align_text
align_line_piece power fill max rest p f m =
    let well = well_align power fill max (omega (arith, p)) f m in
    line_piece (codes ".p2align") (gap ∷ digits power ∷ padding_items fill max) rest well.0 well.2 tt
