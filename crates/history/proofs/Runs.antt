-- One call more. Assumes nothing.
use Rattle.std.proofs.Common.{◌≡◌, ℕ, ◌+◌, ◌<◌, List, [], ◌∷◌, ◌++◌, map, length, get_or, take, Ok, Err, Result, sym, refl, ap, ◌∙◌, subst}
use Rattle.std.proofs.lemmas.List.{take_more, map_push}
use Rattle.store.specs.declared.text_store.TextStore.{Ghosts}
use Rattle.calls.specs.declared.answer.Answer.{Answer}
use Rattle.calls.specs.declared.call.Call.{Call}
use Rattle.calls.specs.Replies.{reply_of}
use Rattle.calls.specs.Said.{Said, said_by}
use Rattle.session.specs.View.{view}
use Rattle.session.specs.World.{World, new_world}
use Rattle.history.specs.declared.outcome.Finished.{Finished}
use Rattle.history.specs.declared.outcome.Unfinished.{Unfinished}
use Rattle.history.specs.declared.outcome.Unfinished.TheVariants.{Interrupted, Unmade}
use Rattle.history.specs.Outcomes.{Ran, RanFrom}
use Rattle.history.specs.Runs.{Answered, Stopped, replies, world_after}
use Rattle.history.specs.Steps.{reply, step}

pub world_none : (w : World) → world_after w [] ≡ w
unfolding world_after
world_none w = refl

pub replies_none : (w : World) → replies w [] ≡ []
unfolding replies
replies_none w = refl

pub world_push : (w : World) (cs : List Said) (c : Said) → world_after w (cs ++ c ∷ []) ≡ step (world_after w cs) c
unfolding world_after
world_push w [] c = refl
world_push w (b ∷ bs) c = world_push (step w b) bs c

replies_push : (w : World) (cs : List Said) (c : Said) → replies w (cs ++ c ∷ []) ≡ replies w cs ++ reply (world_after w cs) c ∷ []
unfolding replies world_after
replies_push w [] c = refl
replies_push w (b ∷ bs) c = ap (λ rs. reply w b ∷ rs) (replies_push (step w b) bs c)

module _ (w : World) (cs : List Call) (i : ℕ) (c : Call) (lt : i < length cs) (is : c ≡ get_or cs i c) where
  taken : map said_by (take (i + 1) cs) ≡ map said_by (take i cs) ++ said_by c ∷ []
  taken =
      let more = take_more cs i c lt ∙ ap (λ x. take i cs ++ x ∷ []) (sym is) in
      ap (map said_by) more ∙ map_push said_by (take i cs) c

  pub world_more : (u v : World) → u ≡ world_after w (map said_by (take i cs)) → v ≡ step u (said_by c) → v ≡ world_after w (map said_by (take (i + 1) cs))
  world_more u v so_far one = one ∙ ap (λ x. step x (said_by c)) so_far ∙ sym (world_push w (map said_by (take i cs)) (said_by c)) ∙ ap (world_after w) (sym taken)

  pub replies_more : (u : World) (before after : List Answer) (a : Answer) → u ≡ world_after w (map said_by (take i cs)) → map reply_of before ≡ replies w (map said_by (take i cs)) → reply_of a ≡ reply u (said_by c) → after ≡ before ++ a ∷ [] → map reply_of after ≡ replies w (map said_by (take (i + 1) cs))
  replies_more u before after a so_far said one is =
      let told : map reply_of after ≡ map reply_of before ++ reply_of a ∷ [] = ap (map reply_of) is ∙ map_push reply_of before a in
      let same : reply_of a ≡ reply (world_after w (map said_by (take i cs))) (said_by c) = one ∙ ap (λ x. reply x (said_by c)) so_far in
      let more = replies_push w (map said_by (take i cs)) (said_by c) ∙ refl in
      told ∙ ap (λ x. x ++ reply_of a ∷ []) said ∙ ap (λ x. replies w (map said_by (take i cs)) ++ x ∷ []) same ∙ sym more ∙ ap (replies w) (sym taken)

pub ran : {S : Type 0} {B : Ghosts S} (store : S) (cs : List Call) (r : Result (Finished S B) (Unfinished S B)) (w : World) → w ≡ new_world (B.text store) (B.room store) → RanFrom w cs r → Ran store cs r
ran store cs (Ok done) w is h = let P : World → Type 0 = λ v. Answered v cs done.answers (view done.session) in subst P is h
ran store cs (Err (Interrupted session)) w is h = let P : World → Type 0 = λ v. Stopped v cs (view session) in subst P is h
ran store cs (Err (Unmade back)) w is h = elim h [ ]
