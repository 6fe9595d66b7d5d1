-- How the parts of a picture look. The text has no script, and names nothing outside of itself.
use Rattle.std.specs.Prelude.{◌≡◌, ℕ, List, [], ◌∷◌, ◌++◌, codes}
use Rattle.draw_svg.specs.declared.style.TheConstants.{STYLE}

-- lines, each with its line feed
abbrev pub with_feeds : List (List ℕ) → List ℕ
with_feeds [] = []
with_feeds (line ∷ lines) = line ++ (10 ∷ with_feeds lines)

-- the style
abbrev pub style_text : List ℕ
style_text = with_feeds (
    codes "<style>" ∷
    codes "text{font:10px ui-monospace,'DejaVu Sans Mono',Menlo,Consolas,monospace;fill:#2b3a46}" ∷
    codes ".title{font:600 15px system-ui,'DejaVu Sans',Helvetica,Arial,sans-serif;fill:#1d2a33}" ∷
    codes ".note,.lane text{font:11px system-ui,'DejaVu Sans',Helvetica,Arial,sans-serif;fill:#5c6b77}" ∷
    codes "svg{background:#fff}.lane rect{fill:#f7f9fa}" ∷
    codes ".bar{fill:#d7e5f0;stroke:#5e87a8}.number{font-size:9px;fill:#5e87a8}.number.long{font-size:6.8px}" ∷
    codes ".pale .bar{fill:#f3f4f5;stroke:#d3d9dd}.pale text{fill:#b3bcc3}" ∷
    codes ".wrong .bar{fill:#f6d5d0;stroke:#b23a2e;stroke-width:1.5}.wrong text{fill:#b23a2e;font-weight:600}" ∷
    codes ".stripes{stroke:#b23a2e;stroke-width:17;stroke-dasharray:2 6;opacity:.45}.wrong .number{stroke:#f6d5d0;stroke-width:3;paint-order:stroke}" ∷
    codes ".mark circle{fill:#1f5673;stroke:#fff}.mark text{fill:#fff;font-size:7.5px;text-anchor:middle}.mark text.long{font-size:5.5px}" ∷
    codes "</style>" ∷ [])

-- the style is exactly that of the program
abbrev pub StyleIsLiteral : Type 0
StyleIsLiteral = STYLE.now ≡ style_text
