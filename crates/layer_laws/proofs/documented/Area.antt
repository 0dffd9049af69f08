-- arena_area answers the documented area. Assumes nothing.
use Rattle.std.specs.Prelude.{◌≡◌, ◌*◌}
use Rattle.layer.proofs.Prelude.{refl, ap, ◌∙◌, Bool, true, false, ℕ, arith, ltb-true, ltb-false, ltb, ℤ, pos, negsuc, when, unless, bytes_of, World, Outcome, at, sound, area, area_of, query, rules}
use Rattle.layer.specs.declared.Settings.{Settings}
use Rattle.layer.specs.declared.Answer.{Answer}
use Rattle.layer.specs.declared.Answer.TheVariants.{Area}
use Rattle.layer.proofs.Calls.{past-1}
use Rattle.layer_laws.specs.documented.Areas.{IsArea}

-- what is answered
record Answers (S : ℕ) (w : World) (id : ℤ) (r : Answer) : Type 0 where
  start : ℕ
  size : ℕ
  is : r ≡ Area start size
  area : IsArea S w id start size

pub arena-area : (S : ℕ) (w : World) (ns : ℕ) (settings : Settings) (id : ℤ) → sound S w settings.page ≡ true
    → (start : ℕ) × (size : ℕ) × ((rules S w ns settings (query (area id))).answer ≡ Area start size) × IsArea S w id start size
unfolding rules bytes_of
arena-area S w ns settings id passed = let a = of id in (a.start, a.size, ap (λ (o : Outcome). o.answer) (past-1 S w ns settings passed (query (area id))) ∙ a.is, a.area)
  where
    same : (x y : ℕ) → pos x ≡ pos y → x ≡ y
    same x y e = cc

    at-id : (i : ℕ) (b : Bool) → ltb i w.state.count ≡ b → Answers S w (pos i) (area_of S w.records w.state.count (pos i))
    at-id i true e = record {
      start = (at w.records i).base;
      size = (at w.records i).chunks * S;
      is = when (ltb i w.state.count) _ _ e;
      area = record {
        there = λ j f h. (ap (λ (x : ℕ). (at w.records x).base) (same i j f), ap (λ (x : ℕ). (at w.records x).chunks * S) (same i j f));
        none = λ n. absurd (n i refl (ltb-true i w.state.count e));
      };
    }
    at-id i false e = record {
      start = 0;
      size = 0;
      is = unless (ltb i w.state.count) _ _ e;
      area = record {
        there = λ j f h. absurd (omega (arith, same i j f, ltb-false i w.state.count e));
        none = λ n. (refl, refl);
      };
    }

    of : (id : ℤ) → Answers S w id (area_of S w.records w.state.count id)
    of (pos i) = at-id i (ltb i w.state.count) refl
    of (negsuc i) = record {
      start = 0;
      size = 0;
      is = refl;
      area = record {
        there = λ j f h. absurd (let z : ◌≡◌ {A = ℕ} 0 1 = cc in omega arith);
        none = λ n. (refl, refl);
      };
    }
