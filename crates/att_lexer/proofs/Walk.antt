-- The walk that cuts a text: bytes that are passed over, and one byte more.
use Rattle.std.proofs.Common.{◌≡◌, ℕ, zero, suc, ◌+◌, ◌<◌, ◌≤◌, Bool, true, false, cond, List, [], ◌∷◌, ◌++◌, length, take, drop, get_or, Option, Some, None, refl, ap, sym, ◌∙◌, subst, arith, add-zero, length-drop, append_assoc, append-nil}
use Rattle.std.specs.Prelude.{◌&&◌, not}
use Rattle.std.specs.List.{prefix_len}
use Rattle.std.proofs.lemmas.Bool.{cond-false}
use Rattle.std.proofs.lemmas.Bool.Decides.{nat_tests}
use Rattle.std.proofs.lemmas.List.{get_or-drop, take_more}
use Rattle.std.proofs.lemmas.List.Sums.{fold_more, prefix_len_passes, prefix_len_stops, prefix_len-le-length}
use Rattle.att_lexer.specs.Bytes.{is_blank, is_digit, is_letter, is_symbol_byte, is_symbol_start, is_stop, is_calm, is_freeze_byte}
use Rattle.att_lexer.specs.Scan.{place_after, is_plain, lead_after, after, ends, Lead, Blanks, Symbol, Digits, Other, Scan}
use Rattle.att_lexer.specs.Pieces.{pieces, freeze_from, freeze_of}
use Rattle.att_lexer.specs.Walk.{past, front_scan, is_passed, IsFront, first_of, found_at, found_in_all, IsThawed}
use Rattle.att_lexer.specs.declared.scan.Place.{Place}
use Rattle.att_lexer.specs.declared.scan.Place.TheVariants.{Plain, InString, Escaped, InComment}
use Rattle.att_lexer.proofs.Cutting.{front_none, front_more, front_all}

-- a byte that is passed neither ends the piece nor keeps a file as it is nor changes the place
passed_ends : (p : Place) (b : ℕ) → is_passed p b ≡ true → ends (past p) b ≡ false
unfolding is_stop ends
passed_ends Plain b e = grind (arith, nat_tests)
passed_ends InString b e = grind (arith, nat_tests)
passed_ends Escaped b e = cc
passed_ends InComment b e = grind (arith, nat_tests)

passed_place : (p : Place) (b : ℕ) → is_passed p b ≡ true → place_after p b ≡ p
unfolding is_stop
passed_place Plain b e = grind (arith, nat_tests)
passed_place InString b e = grind (arith, nat_tests)
passed_place Escaped b e = cc
passed_place InComment b e = refl

passed_thaws : (p : Place) (b : ℕ) → is_passed p b ≡ true → (is_plain p && is_freeze_byte b) ≡ false
unfolding is_stop
passed_thaws Plain b e = grind (arith, nat_tests)
passed_thaws InString b e = refl
passed_thaws Escaped b e = refl
passed_thaws InComment b e = refl

passed_after : (p : Place) (b : ℕ) → is_passed p b ≡ true → after (past p) b ≡ past p
unfolding after
passed_after p b e = λ i. record { place = passed_place p b e i; lead = Other }

calm_ends : (l : Lead) (b : ℕ) → is_calm b ≡ true → ends (record { place = Plain; lead = l }) b ≡ false
unfolding is_stop ends
calm_ends l b e = grind (arith, nat_tests)

-- a stop leads to what can be no first label
stop_no_symbol : (b : ℕ) → is_stop b ≡ true → is_symbol_byte b ≡ false
unfolding is_stop is_freeze_byte is_symbol_byte is_letter is_digit
stop_no_symbol b e = grind (arith, nat_tests)

stop_no_start : (b : ℕ) → is_stop b ≡ true → is_symbol_start b ≡ false
unfolding is_symbol_start
stop_no_start b e = rw (stop_no_symbol b e) refl

stop_no_digit : (b : ℕ) → is_stop b ≡ true → is_digit b ≡ false
unfolding is_stop is_freeze_byte is_digit
stop_no_digit b e = grind (arith, nat_tests)

stop_no_blank : (b : ℕ) → is_stop b ≡ true → is_blank b ≡ false
unfolding is_stop is_freeze_byte is_blank
stop_no_blank b e = grind (arith, nat_tests)

stop_other : (l : Lead) (b : ℕ) → is_stop b ≡ true → lead_after l b ≡ Other
stop_other Blanks b e = cond-false _ _ _ (stop_no_start b e) ∙ (cond-false _ _ _ (stop_no_digit b e) ∙ cond-false _ _ _ (stop_no_blank b e))
stop_other Symbol b e = cond-false _ _ _ (stop_no_symbol b e)
stop_other Digits b e = cond-false _ _ _ (stop_no_digit b e)
stop_other Other b e = refl

-- the byte that stands n behind the i-th, where the first bytes from there are passed
passed_at : (q : ℕ → Bool) (text : List ℕ) (i n : ℕ) → suc n ≤ prefix_len q (drop i text) → (i + n < length text) × (q (get_or text (i + n) 0) ≡ true)
passed_at q text i n le = (
  omega (arith, le, prefix_len-le-length q (drop i text), length-drop i text),
  ap q (sym (get_or-drop i text n 0)) ∙ prefix_len_passes q (drop i text) n 0 (omega (arith, le)),
)

-- a front goes on over bytes that are passed
pub front_on : (text : List ℕ) (i n : ℕ) (p : Place) → n ≤ prefix_len (is_passed p) (drop i text) → IsFront text i (past p) → IsFront text (i + n) (past p)
front_on text i zero p le front = subst (λ k. IsFront text k (past p)) (sym (add-zero i)) front
front_on text i (suc n) p le front =
    let here = passed_at (is_passed p) text i n le in
    let before : IsFront text (i + n) (past p) = front_on text i n p (omega (arith, le)) front in
    let b = get_or text (i + n) 0 in
    let one_more : IsFront text (i + n + 1) (after (past p) b) = front_more text (i + n) (past p) here.0 before (passed_ends p b here.1) in
    let moved : IsFront text (i + n + 1) (past p) = subst (IsFront text (i + n + 1)) (passed_after p b here.1) one_more in
    let place : i + n + 1 ≡ i + suc n = omega arith in
    subst (λ k. IsFront text k (past p)) place moved

-- one byte more that is no end
pub front_next : (text : List ℕ) (i : ℕ) (p : Place) → i < length text → IsFront text i (past p) → ends (past p) (get_or text i 0) ≡ false → IsFront text (i + 1) (past (place_after p (get_or text i 0)))
unfolding after
front_next text i p lt front e = front_more text i (past p) lt front e

-- calm bytes stand in front
pub front_calm : (text : List ℕ) (n : ℕ) → 0 < length text → n ≤ prefix_len is_calm text → IsFront text n (front_scan (take n text))
unfolding after
front_calm text zero some le = front_none text some
front_calm text (suc n) some le =
    let here = passed_at is_calm text 0 n le in
    let lt : n < length text = omega (arith, here.0) in
    let same : 0 + n ≡ n = omega arith in
    let calm : is_calm (get_or text n 0) ≡ true = ap (λ k. is_calm (get_or text k 0)) (sym same) ∙ here.1 in
    let b = get_or text n 0 in
    let s = front_scan (take n text) in
    let before : IsFront text n s = front_calm text n some (omega (arith, le)) in
    let one_more : IsFront text (n + 1) (after s b) = front_more text n s lt before (calm_ends s.lead b calm) in
    let scans : after s b ≡ front_scan (take (n + 1) text) = λ i. record { place = passed_place Plain b calm i; lead = sym (fold_more lead_after Blanks text n 0 lt) i } in
    let moved : IsFront text (n + 1) (front_scan (take (n + 1) text)) = subst (IsFront text (n + 1)) scans one_more in
    let place : n + 1 ≡ suc n = omega arith in
    subst (λ k. IsFront text k (front_scan (take k text))) place moved

-- a stop behind them that is no end
pub front_stop : (text : List ℕ) (n : ℕ) → n < length text → IsFront text n (front_scan (take n text)) → is_stop (get_or text n 0) ≡ true → ends (front_scan (take n text)) (get_or text n 0) ≡ false → IsFront text (n + 1) (past (place_after Plain (get_or text n 0)))
unfolding after
front_stop text n lt front stop e =
    let b = get_or text n 0 in
    let s = front_scan (take n text) in
    let scans : after s b ≡ past (place_after Plain b) = λ i. record { place = place_after Plain b; lead = stop_other s.lead b stop i } in
    subst (IsFront text (n + 1)) scans (front_more text n s lt front e)

-- the same of what keeps a file as it is
by_test : (t : Bool) (b : ℕ) (later : Option ℕ) → cond t (Some b) later ≡ first_of (cond t (Some b) None) later
by_test true b later = refl
by_test false b later = refl

one_more : (found : Option ℕ) (p : Place) (b : ℕ) (rest : List ℕ) → first_of found (freeze_from p (b ∷ rest)) ≡ first_of (found_at found p b) (freeze_from (place_after p b) rest)
one_more (Some x) p b rest = refl
one_more None p b rest = by_test (is_plain p && is_freeze_byte b) b (freeze_from (place_after p b) rest)

pub thaw_next : (text : List ℕ) (i : ℕ) (p : Place) (found : Option ℕ) → i < length text → IsThawed text i p found → IsThawed text (i + 1) (place_after p (get_or text i 0)) (found_at found p (get_or text i 0))
thaw_next text i p found lt h rest =
    let b = get_or text i 0 in
    ap (λ l. freeze_from Plain (l ++ rest)) (take_more text i 0 lt)
    ∙ (ap (freeze_from Plain) (append_assoc (take i text) (b ∷ []) rest) ∙ (h (b ∷ rest) ∙ one_more found p b rest))

found_same : (found : Option ℕ) (p : Place) (b : ℕ) → (is_plain p && is_freeze_byte b) ≡ false → found_at found p b ≡ found
found_same (Some x) p b e = refl
found_same None p b e = cond-false _ _ _ e

pub thaw_on : (text : List ℕ) (i n : ℕ) (p : Place) (found : Option ℕ) → n ≤ prefix_len (is_passed p) (drop i text) → IsThawed text i p found → IsThawed text (i + n) p found
thaw_on text i zero p found le h = subst (λ k. IsThawed text k p found) (sym (add-zero i)) h
thaw_on text i (suc n) p found le h =
    let here = passed_at (is_passed p) text i n le in
    let b = get_or text (i + n) 0 in
    let before : IsThawed text (i + n) p found = thaw_on text i n p found (omega (arith, le)) h in
    let next : IsThawed text (i + n + 1) (place_after p b) (found_at found p b) = thaw_next text (i + n) p found here.0 before in
    let kept : IsThawed text (i + n + 1) (place_after p b) found = subst (IsThawed text (i + n + 1) (place_after p b)) (found_same found p b (passed_thaws p b here.1)) next in
    let moved : IsThawed text (i + n + 1) p found = subst (λ q. IsThawed text (i + n + 1) q found) (passed_place p b here.1) kept in
    let place : i + n + 1 ≡ i + suc n = omega arith in
    subst (λ k. IsThawed text k p found) place moved

pub thaw_none : (text : List ℕ) → IsThawed text 0 Plain None
thaw_none text rest = refl

pub thaw_calm : (text : List ℕ) (n : ℕ) → n ≤ prefix_len is_calm text → IsThawed text n Plain None
thaw_calm text n le =
    let same : 0 + n ≡ n = omega arith in
    subst (λ k. IsThawed text k Plain None) same (thaw_on text 0 n Plain None le (thaw_none text))

open_or_none : (found : Option ℕ) (p : Place) → first_of found (freeze_from p []) ≡ found_in_all found p
open_or_none (Some x) p = refl
open_or_none None p = refl

-- all that was found, at the end of a piece
pub thaw_all : (text : List ℕ) (n : ℕ) (p : Place) (found : Option ℕ) → IsThawed text n p found → found_in_all found p ≡ freeze_of (take n text)
thaw_all text n p found h = sym (sym (ap (freeze_from Plain) (append-nil (take n text))) ∙ (h [] ∙ open_or_none found p))

-- the end of a front finds nothing
pub ended_none : (front : List ℕ) (b : ℕ) → ends (front_scan front) b ≡ true → found_in_all (found_at None Plain b) (place_after Plain b) ≡ None
unfolding ends is_freeze_byte
ended_none front b e = grind (arith, nat_tests)

-- the walk from one byte that isn't passed to the next
pub front_to : (text : List ℕ) (i j : ℕ) (p : Place) → j ≡ i + prefix_len (is_passed p) (drop i text) → IsFront text i (past p) → IsFront text j (past p)
front_to text i j p e front = subst (λ k. IsFront text k (past p)) (sym e) (front_on text i (prefix_len (is_passed p) (drop i text)) p (omega arith) front)

pub thaw_to : (text : List ℕ) (i j : ℕ) (p : Place) (found : Option ℕ) → j ≡ i + prefix_len (is_passed p) (drop i text) → IsThawed text i p found → IsThawed text j p found
thaw_to text i j p found e h = subst (λ k. IsThawed text k p found) (sym e) (thaw_on text i (prefix_len (is_passed p) (drop i text)) p found (omega arith) h)

pub front_step : (text : List ℕ) (i j : ℕ) (p q : Place) → i < length text → IsFront text i (past p) → ends (past p) (get_or text i 0) ≡ false → q ≡ place_after p (get_or text i 0) → j ≡ i + 1 + prefix_len (is_passed q) (drop (i + 1) text) → IsFront text j (past q)
front_step text i j p q lt front e same to =
    front_to text (i + 1) j q to (subst (λ r. IsFront text (i + 1) (past r)) (sym same) (front_next text i p lt front e))

pub thaw_one : (text : List ℕ) (i : ℕ) (p q : Place) (found more : Option ℕ) → i < length text → IsThawed text i p found → q ≡ place_after p (get_or text i 0) → more ≡ found_at found p (get_or text i 0) → IsThawed text (i + 1) q more
thaw_one text i p q found more lt h same found_is =
    let next : IsThawed text (i + 1) (place_after p (get_or text i 0)) (found_at found p (get_or text i 0)) = thaw_next text i p found lt h in
    let named : IsThawed text (i + 1) (place_after p (get_or text i 0)) more = subst (IsThawed text (i + 1) (place_after p (get_or text i 0))) (sym found_is) next in
    subst (λ r. IsThawed text (i + 1) r more) (sym same) named

-- the whole is one piece
pub front_end : (text : List ℕ) (i : ℕ) (s : Scan) → i ≤ length text → length text ≤ i → IsFront text i s → pieces text ≡ take i text ∷ pieces (drop i text)
front_end text i s within le front =
    let all : length text ≡ i = omega arith in
    subst (λ k. pieces text ≡ take k text ∷ pieces (drop k text)) all (front_all text i s le front)

-- the byte behind all calm bytes is a stop
pub stop_at : (text : List ℕ) (n : ℕ) → n ≡ prefix_len is_calm text → n < length text → is_stop (get_or text n 0) ≡ true
stop_at text n e lt =
    let calm : is_calm (get_or text n 0) ≡ false = ap (λ k. is_calm (get_or text k 0)) e ∙ prefix_len_stops is_calm text 0 (omega (arith, e, lt)) in
    negated (is_stop (get_or text n 0)) calm
  where
    negated : (b : Bool) → not b ≡ false → b ≡ true
    negated true h = refl
    negated false h = cc
