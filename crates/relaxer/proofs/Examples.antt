-- Layouts that are worked out by hand. A `jmp` has 2 bytes where it is short, and 5 where it is near.
use Rattle.std.proofs.Common.{◌≡◌, ◌++◌, ℕ, List, [], ◌∷◌, replicate, refl}
use Rattle.std.specs.Prelude.{pos, negsuc, Some, None, sum}
use Rattle.relaxer.specs.declared.item.Item.{Item}
use Rattle.relaxer.specs.declared.item.Item.TheVariants.{Fixed, Short, Near, Align}
use Rattle.relaxer.specs.Layout.{sizes_of, offset_of, displacement, round, IsLayout}
use Rattle.relaxer.proofs.Rounds.{layout_by, layout_at_once}

abbrev nops : ℕ → List Item
nops n = replicate n (Fixed 1)

abbrev label : Item
label = Fixed 0

abbrev ret : Item
ret = Fixed 1

abbrev jmp : ℕ → Item
jmp target = Short 2 5 target

abbrev sizes_in : ℕ → List Item → List ℕ
sizes_in n items = sizes_of (round n items)

-- ---- jmp .L1 / 127 nops / .L1: / ret
forward_127 : List Item
forward_127 = jmp 128 ∷ nops 127 ++ label ∷ ret ∷ []

forward_127_layout : IsLayout forward_127 0
unfolding forward_127
forward_127_layout = layout_at_once forward_127 refl

forward_127_displacement : displacement (sizes_in 0 forward_127) 0 128 ≡ pos 127
unfolding forward_127
forward_127_displacement = refl

forward_127_bytes : sum (sizes_in 0 forward_127) ≡ 130
unfolding forward_127
forward_127_bytes = refl

-- ---- with 128 nops the jump becomes near
forward_128 : List Item
forward_128 = jmp 129 ∷ nops 128 ++ label ∷ ret ∷ []

forward_128_layout : IsLayout forward_128 1
unfolding forward_128
forward_128_layout = layout_by forward_128 0 refl refl

forward_128_round : round 1 forward_128 ≡ Near 5 129 ∷ nops 128 ++ label ∷ ret ∷ []
unfolding forward_128
forward_128_round = refl

forward_128_displacement : displacement (sizes_in 1 forward_128) 0 129 ≡ pos 128
unfolding forward_128
forward_128_displacement = refl

-- ---- .L1: / 126 nops / jmp .L1
backward_126 : List Item
backward_126 = label ∷ nops 126 ++ jmp 0 ∷ []

backward_126_layout : IsLayout backward_126 0
unfolding backward_126
backward_126_layout = layout_at_once backward_126 refl

backward_126_offset : offset_of (sizes_in 0 backward_126) 127 ≡ 126
unfolding backward_126
backward_126_offset = refl

-- -128
backward_126_displacement : displacement (sizes_in 0 backward_126) 127 0 ≡ negsuc 127
unfolding backward_126
backward_126_displacement = refl

-- ---- with 127 nops the jump becomes near
backward_127 : List Item
backward_127 = label ∷ nops 127 ++ jmp 0 ∷ []

backward_127_layout : IsLayout backward_127 1
unfolding backward_127
backward_127_layout = layout_by backward_127 0 refl refl

backward_127_round : round 1 backward_127 ≡ label ∷ nops 127 ++ Near 5 0 ∷ []
unfolding backward_127
backward_127_round = refl

-- -132
backward_127_displacement : displacement (sizes_in 1 backward_127) 128 0 ≡ negsuc 131
unfolding backward_127
backward_127_displacement = refl

-- ---- jmp .L1 / 125 nops / jmp .L2 / .L1: / 200 nops / .L2: / ret: the second jump grows first, and then the first
one_after_another : List Item
one_after_another = jmp 127 ∷ nops 125 ++ jmp 328 ∷ label ∷ nops 200 ++ label ∷ ret ∷ []

first_round : round 1 one_after_another ≡ jmp 127 ∷ nops 125 ++ Near 5 328 ∷ label ∷ nops 200 ++ label ∷ ret ∷ []
unfolding one_after_another
first_round = refl

second_round : round 2 one_after_another ≡ Near 5 127 ∷ nops 125 ++ Near 5 328 ∷ label ∷ nops 200 ++ label ∷ ret ∷ []
unfolding one_after_another
second_round = refl

one_after_another_layout : IsLayout one_after_another 2
unfolding one_after_another
one_after_another_layout = layout_by one_after_another 1 refl refl

first_displacement : displacement (sizes_in 2 one_after_another) 0 127 ≡ pos 130
unfolding one_after_another
first_displacement = refl

second_offset : offset_of (sizes_in 2 one_after_another) 126 ≡ 130
unfolding one_after_another
second_offset = refl

second_displacement : displacement (sizes_in 2 one_after_another) 126 328 ≡ pos 200
unfolding one_after_another
second_displacement = refl

one_after_another_bytes : sum (sizes_in 2 one_after_another) ≡ 336
unfolding one_after_another
one_after_another_bytes = refl

-- ---- ret / .p2align 4,,10 / nop / ret: 15 bytes would be needed
past_the_maximum : sizes_of (ret ∷ Align 4 (Some 10) ∷ Fixed 1 ∷ ret ∷ []) ≡ 1 ∷ 0 ∷ 1 ∷ 1 ∷ []
past_the_maximum = refl

-- as many as are allowed, and without a maximum
up_to_the_maximum : sizes_of (ret ∷ Align 4 (Some 15) ∷ ret ∷ Align 3 None ∷ []) ≡ 1 ∷ 15 ∷ 1 ∷ 7 ∷ []
up_to_the_maximum = refl

-- ---- each jump is pushed out of reach by the one behind it: jmp .L1 / 125 nops / jmp .L2 / .L1: / 125 nops / jmp .L3 / .L2: / 125 nops /
-- jmp .L4 / .L3: / 128 nops / .L4: / ret
chain : List Item
chain = jmp 127 ∷ nops 125 ++ jmp 254 ∷ label ∷ nops 125 ++ jmp 381 ∷ label ∷ nops 125 ++ jmp 510 ∷ label ∷ nops 128 ++ label ∷ ret ∷ []

chain_third_round : round 3 chain ≡ jmp 127 ∷ nops 125 ++ Near 5 254 ∷ label ∷ nops 125 ++ Near 5 381 ∷ label ∷ nops 125 ++ Near 5 510 ∷ label ∷ nops 128 ++ label ∷ ret ∷ []
unfolding chain
chain_third_round = refl

chain_layout : IsLayout chain 4
unfolding chain
chain_layout = layout_by chain 3 refl refl

chain_bytes : sum (sizes_in 4 chain) ≡ 524
unfolding chain
chain_bytes = refl

chain_first_displacement : displacement (sizes_in 4 chain) 0 127 ≡ pos 130
unfolding chain
chain_first_displacement = refl

chain_last_displacement : displacement (sizes_in 4 chain) 381 510 ≡ pos 128
unfolding chain
chain_last_displacement = refl

-- ---- jmp .L1 / jmp .L1 / .p2align 7 / 4 nops / .L1: / ret: both jumps grow in round 1, although the second would reach its target by the
-- padding that the first alone leaves
over_a_padding : List Item
over_a_padding = jmp 7 ∷ jmp 7 ∷ Align 7 None ∷ nops 4 ++ label ∷ ret ∷ []

over_a_padding_round : round 1 over_a_padding ≡ Near 5 7 ∷ Near 5 7 ∷ Align 7 None ∷ nops 4 ++ label ∷ ret ∷ []
unfolding over_a_padding
over_a_padding_round = refl

over_a_padding_layout : IsLayout over_a_padding 1
unfolding over_a_padding
over_a_padding_layout = layout_by over_a_padding 0 refl refl

over_a_padding_sizes : sizes_in 1 over_a_padding ≡ 5 ∷ 5 ∷ 118 ∷ 1 ∷ 1 ∷ 1 ∷ 1 ∷ 0 ∷ 1 ∷ []
unfolding over_a_padding
over_a_padding_sizes = refl
