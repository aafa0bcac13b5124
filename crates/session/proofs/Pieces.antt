-- Texts in pieces.
use Rattle.std.proofs.Common.{◌≡◌, ◌++◌, ap, ◌∙◌, append_assoc}
use Rattle.base_io.specs.Contents.{Bytes}

pub one_more_piece : (a b c t u : Bytes) → t ≡ a ++ b → u ≡ t ++ c → u ≡ a ++ (b ++ c)
one_more_piece a b c t u t_is u_is = u_is ∙ ap (λ (l : Bytes). l ++ c) t_is ∙ append_assoc a b c

pub five_pieces : (a b c d e t u v w : Bytes) → t ≡ a ++ b → u ≡ t ++ c → v ≡ u ++ d → w ≡ v ++ e → w ≡ a ++ (b ++ c ++ d ++ e)
five_pieces a b c d e t u v w t_is u_is v_is w_is =
    one_more_piece a (b ++ c ++ d) e v w (one_more_piece a (b ++ c) d u v (one_more_piece a b c t u t_is u_is) v_is) w_is

-- the last three of them are one piece
pub words_and_place : (a b c d e t u v w : Bytes) → t ≡ a ++ b → u ≡ t ++ c → v ≡ u ++ d → w ≡ v ++ e → w ≡ a ++ (b ++ (c ++ d ++ e))
words_and_place a b c d e t u v w t_is u_is v_is w_is =
    five_pieces a b c d e t u v w t_is u_is v_is w_is ∙ ap (λ (l : Bytes). a ++ l) (ap (λ (l : Bytes). l ++ e) (append_assoc b c d) ∙ append_assoc b (c ++ d) e)
