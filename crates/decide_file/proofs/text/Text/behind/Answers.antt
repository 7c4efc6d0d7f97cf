use Rattle.std.proofs.Common.{◌≡◌, true, Some, ◌∷◌, [], refl, ap, ◌∙◌}
use Rattle.std.proofs.lemmas.Option.{IfSome_then}
use Rattle.decide_file.specs.Numbers.{numbers, plain}
use Rattle.decide_file.proofs.Scanning.{scan_behind}
use Rattle.decide_file.proofs.text.Text.behind.Goals as goal

pub returns : goal.returns
returns c =
    let name : plain c.as_bytes.result.now ≡ true = rw c.as_bytes.ensures.value c.name.ensures in
    let word = scan_behind c.as_bytes.result.now c.self.inside.rest.now (Some c.in_ok-strip_prefix.field-0) name c.in_ok-strip_prefix.ensures.cases in
    let blank = scan_behind (32 ∷ []) c.in_ok-strip_prefix.field-0.now c.strip_prefix-2.result refl c.strip_prefix-2.ensures.cases in
    IfSome_then c.strip_prefix-2.result blank (λ x e. e ∙ (word ∙ ap numbers c.self.view_is))
