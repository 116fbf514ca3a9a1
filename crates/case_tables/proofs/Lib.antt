mod LeftTexts
