-- One call more.
use Rattle.std.proofs.Common.{◌≡◌, ℕ, ◌+◌, ◌<◌, List, [], ◌∷◌, ◌++◌, map, length, get_or, take, sym, refl, ap, ◌∙◌}
use Rattle.std.proofs.lemmas.List.{take_more, map_push}
use Rattle.corrections.specs.declared.calls.Answer.{Answer}
use Rattle.corrections.specs.declared.calls.Call.{Call}
use Rattle.corrections.specs.Replies.{call_reply, call_text, reply_of}
use Rattle.corrections.specs.Runs.{replies, text_after}

pub text_none : (t : List ℕ) (room : ℕ) → text_after t room [] ≡ t
unfolding text_after
text_none t room = refl

pub replies_none : (t : List ℕ) (room : ℕ) → replies t room [] ≡ []
unfolding replies
replies_none t room = refl

text_push : (t : List ℕ) (room : ℕ) (cs : List Call) (c : Call) → text_after t room (cs ++ (c ∷ [])) ≡ call_text (text_after t room cs) room c
unfolding text_after
text_push t room [] c = refl
text_push t room (b ∷ bs) c = text_push (call_text t room b) room bs c

replies_push : (t : List ℕ) (room : ℕ) (cs : List Call) (c : Call) → replies t room (cs ++ (c ∷ [])) ≡ replies t room cs ++ (call_reply (text_after t room cs) room c ∷ [])
unfolding replies text_after
replies_push t room [] c = refl
replies_push t room (b ∷ bs) c = ap (λ rs. call_reply t room b ∷ rs) (replies_push (call_text t room b) room bs c)

module _ (t : List ℕ) (room : ℕ) (cs : List Call) (i : ℕ) (c : Call) (lt : i < length cs) (is : c ≡ get_or cs i c) where
  taken : take (i + 1) cs ≡ take i cs ++ (c ∷ [])
  taken = take_more cs i c lt ∙ ap (λ x. take i cs ++ (x ∷ [])) (sym is)

  pub text_more : (u v : List ℕ) (r : ℕ) → r ≡ room → u ≡ text_after t room (take i cs) → v ≡ call_text u r c → v ≡ text_after t room (take (i + 1) cs)
  text_more u v r same so_far step = let e = text_push t room (take i cs) c in let f = taken in cc

  pub replies_more : (u : List ℕ) (r : ℕ) (before after : List Answer) (a : Answer) → r ≡ room → u ≡ text_after t room (take i cs) → map reply_of before ≡ replies t room (take i cs) → reply_of a ≡ call_reply u r c → after ≡ before ++ (a ∷ []) → map reply_of after ≡ replies t room (take (i + 1) cs)
  replies_more u r before after a same so_far said step is =
      let e = replies_push t room (take i cs) c in
      let f = taken in
      let m = map_push reply_of before a in
      cc
