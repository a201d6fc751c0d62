mod SoundTexts
