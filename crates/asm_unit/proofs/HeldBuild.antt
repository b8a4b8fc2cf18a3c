-- Entries that are added one by one.
use Rattle.std.proofs.Common.{◌≡◌, ℕ, suc, ◌+◌, ◌<◌, List, [], ◌∷◌, ◌++◌, map, length, take, get_or, Some, refl, sym, ap, ◌∙◌, arith, subst, append_assoc, append-nil, length-append}
use Rattle.std.proofs.lemmas.List.{take_more}
use Rattle.att_lexer.specs.declared.pieces.Span.{Span}
use Rattle.insn_ir.specs.declared.entry.Entry.{Entry}
use Rattle.asm_unit.specs.Held.{Held, AreNumbered, entries_of}

numbered_at : (n : ℕ) (xs : List Entry) (e : Entry) (ys : List Entry) → AreNumbered n (xs ++ e ∷ ys) → e.serial ≡ suc (n + length xs)
numbered_at n [] e ys h = omega (arith, h.0)
numbered_at n (x ∷ xs) e ys h = omega (arith, numbered_at (suc n) xs e ys h.1)

count_entries : (hs : List Held) → length (entries_of hs) ≡ length hs
count_entries [] = refl
count_entries (h ∷ hs) = ap suc (count_entries hs)

-- the next entry has the next serial
pub next_serial : (hs : List Held) (e : Entry) (rest left es : List Entry) (last next : ℕ) → entries_of hs ++ left ≡ es → left ≡ e ∷ rest → AreNumbered 0 es → last ≡ next → length hs ≡ next → e.serial ≡ last + 1
next_serial hs e rest left es last next whole l h a b =
    omega (arith, numbered_at 0 (entries_of hs) e rest (subst (AreNumbered 0) (sym (ap (λ xs. entries_of hs ++ xs) (sym l) ∙ whole)) h), count_entries hs, a, b)

entries_more : (hs : List Held) (h : Held) → entries_of (hs ++ h ∷ []) ≡ entries_of hs ++ h.entry ∷ []
entries_more [] h = refl
entries_more (x ∷ hs) h = ap (λ xs. x.entry ∷ xs) (entries_more hs h)

spans_more : (hs : List Held) (h : Held) → map (λ x. x.span) (hs ++ h ∷ []) ≡ map (λ x. x.span) hs ++ h.span ∷ []
spans_more [] h = refl
spans_more (x ∷ hs) h = ap (λ xs. x.span ∷ xs) (spans_more hs h)

some_more : (ss : List Span) (s : Span) → map Some (ss ++ s ∷ []) ≡ map Some ss ++ Some s ∷ []
some_more [] s = refl
some_more (x ∷ ss) s = ap (λ xs. Some x ∷ xs) (some_more ss s)

pub added : (hs ks : List Held) (e : Entry) (s : Span) (rest left es : List Entry) → entries_of hs ++ left ≡ es → left ≡ e ∷ rest → ks ≡ hs ++ record { entry = e; span = Some s } ∷ [] → entries_of ks ++ rest ≡ es
added hs ks e s rest left es whole l k =
    ap (λ xs. entries_of xs ++ rest) k ∙ ap (λ xs. xs ++ rest) (entries_more hs (record { entry = e; span = Some s })) ∙ append_assoc (entries_of hs) (e ∷ []) rest ∙ ap (λ xs. entries_of hs ++ xs) (sym l) ∙ whole

pub spans_added : (hs ks : List Held) (e : Entry) (next : ℕ) (places : List Span) (d : Span) → next < length places → map (λ h. h.span) hs ≡ map Some (take next places)
    → ks ≡ hs ++ record { entry = e; span = Some (get_or places next d) } ∷ [] → map (λ h. h.span) ks ≡ map Some (take (next + 1) places)
spans_added hs ks e next places d lt before k =
    ap (map (λ h. h.span)) k ∙ spans_more hs (record { entry = e; span = Some (get_or places next d) }) ∙ ap (λ xs. xs ++ Some (get_or places next d) ∷ []) before
    ∙ sym (some_more (take next places) (get_or places next d)) ∙ ap (map Some) (sym (take_more places next d lt))

pub all_added : (hs : List Held) (left es : List Entry) (next len : ℕ) → entries_of hs ++ left ≡ es → length hs ≡ next → next + len ≡ length es → len ≡ 0 → entries_of hs ≡ es
all_added hs [] es next len whole a b z = sym (append-nil (entries_of hs)) ∙ whole
all_added hs (x ∷ left) es next len whole a b z = absurd (omega (arith, length-append (entries_of hs) (x ∷ left), ap length whole, count_entries hs, a, b, z))
