-- Parts that are appended one by one.
use Rattle.std.proofs.Common.{◌≡◌, ◌∙◌, ap, ℕ, List, ◌++◌, append_assoc}

pub joined_3 : (t x y z a b c : List ℕ) → x ≡ t ++ a → y ≡ x ++ b → z ≡ y ++ c → z ≡ t ++ ((a ++ b) ++ c)
joined_3 t x y z a b c e f g =
    let all : z ≡ ((t ++ a) ++ b) ++ c = g ∙ ap (λ l. l ++ c) (f ∙ ap (λ l. l ++ b) e) in
    all ∙ simp append_assoc

pub joined_6 : (t x y z u v w a b c d e f : List ℕ) → x ≡ t ++ a → y ≡ x ++ b → z ≡ y ++ c → u ≡ z ++ d → v ≡ u ++ e → w ≡ v ++ f → w ≡ t ++ (((((a ++ b) ++ c) ++ d) ++ e) ++ f)
joined_6 t x y z u v w a b c d e f p q r s k l =
    let five : v ≡ t ++ ((((a ++ b) ++ c) ++ d) ++ e) = joined_3 t z u v ((a ++ b) ++ c) d e (joined_3 t x y z a b c p q r) s k in
    l ∙ ap (λ m. m ++ f) five ∙ append_assoc t ((((a ++ b) ++ c) ++ d) ++ e) f
