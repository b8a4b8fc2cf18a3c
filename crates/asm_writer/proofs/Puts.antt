-- Fragments that are put one after another.
use Rattle.std.proofs.Common.{◌≡◌, ℕ, ◌+◌, ◌<◌, List, [], ◌++◌, length, take, drop, get_or, Some, None, refl, ap, sym, subst, ◌∙◌, arith, append_assoc, append-nil, length-append}
use Rattle.std.proofs.lemmas.List.{drop_more, take-append-le}
use Rattle.std.proofs.Math.Seq.{take-append-add}
use Rattle.std.specs.declared.option.Option.{Option}
use Rattle.std.specs.Io.KnownBytes.{Appends}
use Rattle.asm_writer.specs.declared.fragment.Fragment.{Fragment}
use Rattle.asm_writer.specs.Fragments.{fragment_text, fragments_text}

-- two parts, one after the other
pub Appends-append : (old mid new : Option (List ℕ)) (xs ys : List ℕ) → Appends old mid xs → Appends mid new ys → Appends old new (xs ++ ys)
Appends-append None mid new xs ys first second = tt
Appends-append (Some a) (Some b) (Some c) xs ys first second = second ∙ ap (λ l. l ++ ys) first ∙ append_assoc a xs ys
Appends-append (Some a) (Some b) None xs ys first second = absurd second
Appends-append (Some a) None new xs ys first second = absurd first

-- the next fragment, and those behind it
pub next_fragment : (fragments : List Fragment) (i : ℕ) (d : Fragment) → i < length fragments → fragments_text (drop i fragments) ≡ fragment_text (get_or fragments i d) ++ fragments_text (drop (i + 1) fragments)
next_fragment fragments i d h = ap fragments_text (drop_more fragments i d h)

-- a proper front of a part, behind what was put
pub front_of : (done part rest all : List ℕ) (n : ℕ) → n < length part → done ++ (part ++ rest) ≡ all → (length done + n < length all) × (take (length done + n) all ≡ done ++ take n part)
front_of done part rest all n lt e = (
  omega (arith, ap length e, length-append done (part ++ rest), length-append part rest),
  ap (take (length done + n)) (sym e) ∙ take-append-add done (part ++ rest) n ∙ ap (λ l. done ++ l) (take-append-le n part rest (omega arith)),
)

-- of nothing each part is nothing
pub none_of : (done part rest all : List ℕ) → done ++ (part ++ rest) ≡ all → length all ≡ 0 → length part ≡ 0
none_of done part rest all e none = omega (arith, none, ap length e, length-append done (part ++ rest), length-append part rest)

pub Appends-none : (known : Option (List ℕ)) → Appends known known []
Appends-none None = tt
Appends-none (Some xs) = sym (append-nil xs)

-- a proper front of what was to be put was put
abbrev pub IsFront : Option (List ℕ) → Option (List ℕ) → List ℕ → Type 0
IsFront old new all = (n : ℕ) × (n < length all) × Appends old new (take n all)

-- a part that failed, behind what was put
pub put_part : (old mid new : Option (List ℕ)) (done part rest all : List ℕ) → Appends old mid done → IsFront mid new part → done ++ (part ++ rest) ≡ all → IsFront old new all
put_part old mid new done part rest all first cut e =
    let front = front_of done part rest all cut.0 cut.1 e in (
      length done + cut.0,
      front.0,
      subst (λ l. Appends old new l) (sym front.1) (Appends-append old mid new done (take cut.0 part) first cut.2),
    )

-- the last part failed
pub last_part : (old mid new : Option (List ℕ)) (done part : List ℕ) → Appends old mid done → IsFront mid new part → IsFront old new (done ++ part)
last_part old mid new done part first cut = put_part old mid new done part [] (done ++ part) first cut (ap (λ l. done ++ l) (append-nil part))

-- the first part failed
pub put_front : (old new : Option (List ℕ)) (part rest : List ℕ) → IsFront old new part → IsFront old new (part ++ rest)
put_front old new part rest cut = put_part old old new [] part rest (part ++ rest) (Appends-none old) cut refl

-- what was put and what waits are all before the rest
pub put_whole : (old mid new : Option (List ℕ)) (put waiting before : List ℕ) → Appends old mid put → put ++ waiting ≡ before → Appends mid new waiting → Appends old new before
put_whole old mid new put waiting before first e second = subst (Appends old new) e (Appends-append old mid new put waiting first second)

-- what waits failed
pub waiting_part : (old mid new : Option (List ℕ)) (put waiting before rest : List ℕ) → Appends old mid put → put ++ waiting ≡ before → IsFront mid new waiting → IsFront old new (before ++ rest)
waiting_part old mid new put waiting before rest first e cut =
    put_part old mid new put waiting rest (before ++ rest) first cut (sym (append_assoc put waiting rest) ∙ ap (λ l. l ++ rest) e)

pub waiting_last : (old mid new : Option (List ℕ)) (put waiting before : List ℕ) → Appends old mid put → put ++ waiting ≡ before → IsFront mid new waiting → IsFront old new before
waiting_last old mid new put waiting before first e cut = subst (IsFront old new) e (last_part old mid new put waiting first cut)
