-- What a session is lent stays the same from its opening to its close.
use Rattle.std.proofs.Common.{◌≡◌, ◌∙◌, Bool, refl, ap}
use Rattle.session_run.specs.Machine.{World, Step, greets, takes_frame, makes_turn, passes_turn, writes, passes_write, reads, passes_read, gives_up, leaves, drains, closes, Reach, here, next}

step_setting : (alone : Bool) (w v : World) → Step alone w v → v.setting ≡ w.setting
step_setting alone w v (greets s) = ap (λ (x : World). x.setting) s.is
step_setting alone w v (takes_frame s) = ap (λ (x : World). x.setting) s.is
step_setting alone w v (makes_turn s) = ap (λ (x : World). x.setting) s.is
step_setting alone w v (passes_turn s) = ap (λ (x : World). x.setting) s.is
step_setting alone w v (writes s) = ap (λ (x : World). x.setting) s.is
step_setting alone w v (passes_write s) = ap (λ (x : World). x.setting) s.is
step_setting alone w v (reads s) = ap (λ (x : World). x.setting) s.is
step_setting alone w v (passes_read s) = ap (λ (x : World). x.setting) s.is
step_setting alone w v (gives_up s) = ap (λ (x : World). x.setting) s.is
step_setting alone w v (leaves s) = ap (λ (x : World). x.setting) s.is
step_setting alone w v (drains s) = ap (λ (x : World). x.setting) s.is
step_setting alone w v (closes s) = ap (λ (x : World). x.setting) s.is

pub reach_setting : (alone : Bool) (w v : World) → Reach alone w v → v.setting ≡ w.setting
reach_setting alone w v here = refl
reach_setting alone w v (next {u} r s) = step_setting alone u v s ∙ reach_setting alone w u r
